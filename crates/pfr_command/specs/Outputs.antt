-- The files that a run writes.
use Rattle.std.specs.Prelude.{ℕ, List, [], ◌∷◌, ◌++◌, map}
use Rattle.std.specs.Borrow.{Bor}
use Rattle.pfr_values.specs.declared.also.CaptureWords.{CaptureWords}
use Rattle.pfr_command.specs.declared.run.OutputNames.{OutputNames}
use Rattle.pfr_command.specs.declared.run.Messages.{Messages}
use Rattle.pfr_command.specs.declared.run.Messages.TheVariants.{File, Peer, Nowhere}

-- the name of the file of messages, if they go into one
abbrev pub messages_names : Messages → List (Bor (List ℕ))
messages_names (File name) = name ∷ []
messages_names (Peer peer) = []
messages_names Nowhere = []

-- the names of the files of packets, by the places of their captures
abbrev pub packets_names : List CaptureWords → List (Bor (List ℕ))
packets_names captures = map (λ words. words.packets) captures

-- the names of the files of a run's outputs, in the order in which they are made
abbrev pub file_names : List CaptureWords → OutputNames → List (Bor (List ℕ))
file_names captures outputs =
    outputs.verdicts ∷ (packets_names captures ++ outputs.counters ∷ outputs.states ∷ messages_names outputs.messages)
