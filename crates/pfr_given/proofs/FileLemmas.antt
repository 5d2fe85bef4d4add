-- Files line by line.
use Rattle.std.proofs.Common.{◌≡◌, ℕ, List, [], ◌∷◌, ◌++◌, length, refl}
use Rattle.std.specs.Prelude.{option_to_list}
use Rattle.std.specs.List.{before_first, after_first}
use Rattle.pfr_given.specs.declared.parts.Part.TheVariants as part
use Rattle.pfr_given.specs.Texts.{ends, lines, plain_words, words}
use Rattle.pfr_given.specs.Files.{host_line, hosts, table_words}
use Rattle.pfr_given.specs.Services.{service_line, services_in}
use Rattle.pfr_given.proofs.PartLemmas.{next_part}

pub no_hosts : (text : List ℕ) → length text ≡ 0 → hosts text ≡ []
unfolding hosts lines words
no_hosts [] none = refl
no_hosts (b ∷ text) none = absurd (cc)

pub no_table : (text : List ℕ) → length text ≡ 0 → table_words text ≡ []
unfolding table_words lines words
no_table [] none = refl
no_table (b ∷ text) none = absurd (cc)

pub no_services : (text : List ℕ) → length text ≡ 0 → services_in text ≡ []
unfolding services_in lines words
no_services [] none = refl
no_services (b ∷ text) none = absurd (cc)

pub one_service : (text : List ℕ) → option_to_list (service_line (before_first (ends part.Line) text)) ++ services_in (after_first (ends part.Line) text) ≡ services_in text
unfolding services_in lines words
one_service text = next_part (ends part.Line) (λ line. option_to_list (service_line line)) text refl

pub one_host : (text : List ℕ) → host_line (before_first (ends part.Line) text) ++ hosts (after_first (ends part.Line) text) ≡ hosts text
unfolding hosts lines words
one_host text = next_part (ends part.Line) host_line text refl

pub one_table_line : (text : List ℕ) → plain_words part.PlainOfTable (before_first (ends part.Line) text) ++ table_words (after_first (ends part.Line) text) ≡ table_words text
unfolding table_words lines words
one_table_line text = next_part (ends part.Line) (plain_words part.PlainOfTable) text refl
