-- Worked examples of what the definitions say.
use Rattle.std.proofs.Common.{◌≡◌, [], ◌∷◌, refl, codes}
use Rattle.std.specs.Fmt.{digits}
use Rattle.pfr_net.specs.declared.network.Net.{Net}
use Rattle.pfr_net.specs.Networks.{prefix}
use Rattle.pfr_net.specs.Notation.{cut_at, dotted, number, number_within}
use Rattle.pfr_given.specs.declared.entry.Subject.TheVariants as subject
use Rattle.pfr_given.specs.Entries.{entry, is_same, texts_of}
use Rattle.pfr_given.specs.Files.{forms, hosts, table, table_words}
use Rattle.pfr_given.specs.Services.{port_number, port_of, services, services_in}
use Rattle.pfr_given.specs.Texts.{joined_by, lines, words}
use Rattle.pfr_given.specs.Written.{address_text, network_text}

words_example : words (codes " 10.0.0.1\tweb  www\r") ≡ codes "10.0.0.1" ∷ codes "web" ∷ codes "www" ∷ []
unfolding words
words_example = refl

joined_example : joined_by (codes ", ") (codes "a" ∷ codes "b" ∷ codes "c" ∷ []) ≡ codes "a, b, c"
joined_example = refl

table_example : table (codes "# hosts\n10.0.0.1 !10.0.0.2 ; not this\n\n10.1/16") ≡ codes "10.0.0.1, !10.0.0.2, 10.1/16"
unfolding table_words lines words
table_example = refl

hosts_example : hosts (codes "::1 web\n010.0.0.1 web www # front\n")
    ≡ entry subject.Address (codes "web") (codes "10.0.0.1") ∷ entry subject.Address (codes "www") (codes "10.0.0.1") ∷ []
unfolding hosts lines words dotted cut_at number_within address_text digits
hosts_example = refl

services_example : services (codes "www 80/tcp http\nwww 80/udp http web\nrtmp 1/ddp\ntalk 517/udp\n")
    ≡ entry subject.Service (codes "www") (codes "80") ∷ entry subject.Service (codes "http") (codes "80") ∷ entry subject.Service (codes "web") (codes "80")
    ∷ entry subject.Service (codes "talk") (codes "517") ∷ []
unfolding services services_in lines words port_of port_number cut_at number digits
services_example = refl

abbrev network : Net
network = record { address = record { 0 = 3221225997 }; bits = 24 }

forms_example : forms (codes "em1") network
    ≡ entry subject.Address (codes "em1") (codes "192.0.2.13") ∷ entry subject.Address (codes "em1:0") (codes "192.0.2.13")
    ∷ entry subject.Address (codes "em1:network") (codes "192.0.2.0/24") ∷ entry subject.Address (codes "em1:broadcast") (codes "192.0.2.255") ∷ []
unfolding forms address_text network_text prefix digits
forms_example = refl

texts_example : texts_of (record { entries = entry subject.Address (codes "web") (codes "10.0.0.1") ∷ entry subject.Table (codes "web") (codes "10.9.0.0/16") ∷ entry subject.Address (codes "web") (codes "10.0.0.2") ∷ [] }) subject.Address (codes "web")
    ≡ codes "10.0.0.1" ∷ codes "10.0.0.2" ∷ []
unfolding texts_of is_same
texts_example = refl
