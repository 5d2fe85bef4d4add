pub mod OkLemmas
