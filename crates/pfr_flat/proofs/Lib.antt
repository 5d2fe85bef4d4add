pub mod Digits
pub mod MacroLists
pub mod Members
pub mod Order
pub mod Products
