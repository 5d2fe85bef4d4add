-- The words of pf.conf(5), and the numbers that its names stand for.
use Rattle.std.specs.Prelude.{ℕ, List, [], ◌∷◌, codes}

-- the words of the grammar (pf.conf(5), "Grammar")
abbrev pub words_of_grammar : List (List ℕ)
words_of_grammar =
    codes "table" ∷ codes "persist" ∷ codes "const" ∷ codes "counters"
    ∷ codes "set" ∷ codes "skip" ∷ codes "on" ∷ codes "timeout"
    ∷ codes "limit" ∷ codes "states" ∷ codes "frags" ∷ codes "src-nodes" ∷ codes "table-entries" ∷ codes "tables"
    ∷ codes "block-policy" ∷ codes "drop" ∷ codes "return"
    ∷ codes "state-policy" ∷ codes "if-bound" ∷ codes "floating"
    ∷ codes "hostid" ∷ codes "optimization" ∷ codes "normal"
    ∷ codes "require-order" ∷ codes "loginterface" ∷ codes "debug" ∷ codes "ruleset-optimization"
    ∷ codes "interval" ∷ codes "frag" ∷ codes "src.track"
    ∷ codes "pass" ∷ codes "block" ∷ codes "in" ∷ codes "out" ∷ codes "log" ∷ codes "quick"
    ∷ codes "inet" ∷ codes "proto" ∷ codes "all" ∷ codes "from" ∷ codes "to" ∷ codes "port" ∷ codes "any" ∷ codes "self"
    ∷ codes "flags" ∷ codes "icmp-type" ∷ codes "code"
    ∷ codes "no" ∷ codes "state" ∷ codes "keep" ∷ codes "no-sync" ∷ codes "max" ∷ codes "allow-opts" ∷ codes "label"
    ∷ codes "anchor" ∷ codes "nat-anchor" ∷ codes "rdr-anchor" ∷ codes "binat-anchor"
    ∷ codes "nat" ∷ codes "rdr" ∷ codes "binat" ∷ codes "static-port" ∷ []

-- the words of pf.conf(5) for what this profile leaves out
abbrev pub words_left_out : List (List ℕ)
words_left_out =
    codes "scrub" ∷ codes "altq" ∷ codes "queue" ∷ codes "antispoof" ∷ codes "load" ∷ codes "include"
    ∷ codes "route-to" ∷ codes "reply-to" ∷ codes "dup-to" ∷ codes "tag" ∷ codes "tagged"
    ∷ codes "user" ∷ codes "group" ∷ codes "os" ∷ codes "tos" ∷ codes "probability" ∷ codes "fragment"
    ∷ codes "modulate" ∷ codes "synproxy" ∷ codes "sloppy"
    ∷ codes "max-src-nodes" ∷ codes "max-src-states" ∷ codes "max-src-conn" ∷ codes "max-src-conn-rate"
    ∷ codes "overload" ∷ codes "source-track"
    ∷ codes "bitmask" ∷ codes "random" ∷ codes "source-hash" ∷ codes "round-robin" ∷ codes "sticky-address"
    ∷ codes "file" ∷ codes "inet6" ∷ codes "icmp6-type"
    ∷ codes "return-rst" ∷ codes "return-icmp" ∷ codes "return-icmp6" ∷ codes "no-route" ∷ codes "urpf-failed" ∷ []

-- protocols by name (protocols(5), with the numbers of IANA's "Protocol Numbers")
abbrev pub protocol_numbers : List (List ℕ × ℕ)
protocol_numbers =
    (codes "icmp", 1) ∷ (codes "igmp", 2) ∷ (codes "tcp", 6) ∷ (codes "udp", 17)
    ∷ (codes "gre", 47) ∷ (codes "esp", 50) ∷ (codes "ah", 51) ∷ []

-- services by name (services(5), with the ports of IANA's "Service Name and Transport Protocol Port Number Registry")
abbrev pub service_ports : List (List ℕ × ℕ)
service_ports =
    (codes "ftp", 21) ∷ (codes "ssh", 22) ∷ (codes "telnet", 23) ∷ (codes "smtp", 25) ∷ (codes "domain", 53)
    ∷ (codes "http", 80) ∷ (codes "www", 80) ∷ (codes "pop3", 110) ∷ (codes "ntp", 123) ∷ (codes "imap", 143)
    ∷ (codes "snmp", 161) ∷ (codes "https", 443) ∷ []

-- ICMP types by the names of icmp(4), with the numbers of RFC 792: echo reply, destination unreachable, redirect, echo,
-- time exceeded and parameter problem
abbrev pub icmp_type_numbers : List (List ℕ × ℕ)
icmp_type_numbers =
    (codes "echorep", 0) ∷ (codes "unreach", 3) ∷ (codes "redir", 5) ∷ (codes "echoreq", 8)
    ∷ (codes "timex", 11) ∷ (codes "paramprob", 12) ∷ []
