-- Where the bytes of an input come from.
use Rattle.std.specs.Prelude.{ℕ, List, Option}
use Rattle.pfr_files.specs.declared.origin.Origin.{Origin}
use Rattle.pfr_files.specs.declared.origin.Origin.TheVariants.{File, Standard}

-- the bytes that an origin gives from here on, where its file or its stream tells them
abbrev pub remaining_of : {F I : Type 0} → (F → Option (List ℕ)) → (I → Option (List ℕ)) → Origin F I → Option (List ℕ)
remaining_of file_remaining standard_remaining (File file) = file_remaining file
remaining_of file_remaining standard_remaining (Standard input) = standard_remaining input
