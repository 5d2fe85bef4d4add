-- Names for numbers that the strict reader knows by their numbers alone.
use Rattle.std.specs.Prelude.{ℕ, List, [], ◌∷◌, codes}

-- protocols by name (protocols(5), with the numbers of IANA's "Protocol Numbers")
abbrev pub protocol_numbers : List (List ℕ × ℕ)
protocol_numbers =
    (codes "ipencap", 4) ∷ (codes "igp", 9) ∷ (codes "rdp", 27) ∷ (codes "ipv6", 41) ∷ (codes "ipv6-route", 43)
    ∷ (codes "ipv6-frag", 44) ∷ (codes "rsvp", 46) ∷ (codes "mobile", 55) ∷ (codes "ipv6-icmp", 58) ∷ (codes "icmp6", 58)
    ∷ (codes "ipv6-nonxt", 59) ∷ (codes "ipv6-opts", 60) ∷ (codes "eigrp", 88) ∷ (codes "ospf", 89) ∷ (codes "ipip", 94)
    ∷ (codes "etherip", 97) ∷ (codes "encap", 98) ∷ (codes "pim", 103) ∷ (codes "ipcomp", 108) ∷ (codes "carp", 112)
    ∷ (codes "vrrp", 112) ∷ (codes "l2tp", 115) ∷ (codes "sctp", 132) ∷ (codes "udplite", 136) ∷ (codes "pfsync", 240) ∷ []

-- services by name (services(5), with the ports of IANA's "Service Name and Transport Protocol Port Number Registry")
abbrev pub service_ports : List (List ℕ × ℕ)
service_ports =
    (codes "tcpmux", 1) ∷ (codes "echo", 7) ∷ (codes "discard", 9) ∷ (codes "systat", 11) ∷ (codes "daytime", 13)
    ∷ (codes "qotd", 17) ∷ (codes "chargen", 19) ∷ (codes "ftp-data", 20) ∷ (codes "time", 37) ∷ (codes "whois", 43)
    ∷ (codes "tacacs", 49) ∷ (codes "bootps", 67) ∷ (codes "bootpc", 68) ∷ (codes "tftp", 69) ∷ (codes "gopher", 70)
    ∷ (codes "finger", 79) ∷ (codes "kerberos", 88) ∷ (codes "sunrpc", 111) ∷ (codes "auth", 113) ∷ (codes "ident", 113)
    ∷ (codes "sftp", 115) ∷ (codes "nntp", 119) ∷ (codes "netbios-ns", 137) ∷ (codes "netbios-dgm", 138)
    ∷ (codes "netbios-ssn", 139) ∷ (codes "snmptrap", 162) ∷ (codes "xdmcp", 177) ∷ (codes "bgp", 179) ∷ (codes "irc", 194)
    ∷ (codes "ldap", 389) ∷ (codes "svrloc", 427) ∷ (codes "microsoft-ds", 445) ∷ (codes "smtps", 465) ∷ (codes "isakmp", 500)
    ∷ (codes "exec", 512) ∷ (codes "login", 513) ∷ (codes "shell", 514) ∷ (codes "syslog", 514) ∷ (codes "printer", 515)
    ∷ (codes "talk", 517) ∷ (codes "ntalk", 518) ∷ (codes "router", 520) ∷ (codes "uucp", 540) ∷ (codes "klogin", 543)
    ∷ (codes "kshell", 544) ∷ (codes "afpovertcp", 548) ∷ (codes "rtsp", 554) ∷ (codes "nntps", 563) ∷ (codes "submission", 587)
    ∷ (codes "ipp", 631) ∷ (codes "ldaps", 636) ∷ (codes "rsync", 873) ∷ (codes "ftps-data", 989) ∷ (codes "ftps", 990)
    ∷ (codes "telnets", 992) ∷ (codes "imaps", 993) ∷ (codes "ircs", 994) ∷ (codes "pop3s", 995) ∷ (codes "socks", 1080)
    ∷ (codes "openvpn", 1194) ∷ (codes "radius", 1812) ∷ (codes "radacct", 1813) ∷ (codes "nfsd", 2049) ∷ (codes "mysql", 3306)
    ∷ (codes "svn", 3690) ∷ (codes "sip", 5060) ∷ (codes "postgresql", 5432) ∷ []

-- types of ICMP by name, and then codes (icmp(4), pf.conf(5), with the numbers of IANA's "ICMP Parameters"). The codes are those of
-- destination unreachable, redirect, router advertisement, time exceeded, parameter problem and photuris.
abbrev pub icmp_numbers : List (List ℕ × ℕ)
icmp_numbers =
    (codes "squench", 4) ∷ (codes "althost", 6) ∷ (codes "routeradv", 9) ∷ (codes "routersol", 10) ∷ (codes "timereq", 13)
    ∷ (codes "timerep", 14) ∷ (codes "inforeq", 15) ∷ (codes "inforep", 16) ∷ (codes "maskreq", 17) ∷ (codes "maskrep", 18)
    ∷ (codes "trace", 30) ∷ (codes "dataconv", 31) ∷ (codes "mobredir", 32) ∷ (codes "ipv6-where", 33) ∷ (codes "ipv6-here", 34)
    ∷ (codes "mobregreq", 35) ∷ (codes "mobregrep", 36) ∷ (codes "photuris", 40) ∷ (codes "net-unr", 0) ∷ (codes "host-unr", 1)
    ∷ (codes "proto-unr", 2) ∷ (codes "port-unr", 3) ∷ (codes "needfrag", 4) ∷ (codes "srcfail", 5) ∷ (codes "net-unk", 6)
    ∷ (codes "host-unk", 7) ∷ (codes "isolate", 8) ∷ (codes "net-prohib", 9) ∷ (codes "host-prohib", 10) ∷ (codes "net-tos", 11)
    ∷ (codes "host-tos", 12) ∷ (codes "filter-prohib", 13) ∷ (codes "host-preced", 14) ∷ (codes "cutoff-preced", 15)
    ∷ (codes "redir-net", 0) ∷ (codes "redir-host", 1) ∷ (codes "redir-tos-net", 2) ∷ (codes "redir-tos-host", 3)
    ∷ (codes "normal-adv", 0) ∷ (codes "common-adv", 16) ∷ (codes "transit", 0) ∷ (codes "reassemb", 1) ∷ (codes "badhead", 0)
    ∷ (codes "optmiss", 1) ∷ (codes "badlen", 2) ∷ (codes "unknown-ind", 1) ∷ (codes "auth-fail", 2) ∷ (codes "decrypt-fail", 3) ∷ []
