-- What the format fixes: the names of keys with the ranges of their values, each at its number, and
-- the words of faults. The tables of the code are held to these.
use Rattle.std.specs.Prelude.{◌≡◌, ℕ, [], ◌∷◌, codes}
use Rattle.afdx_config.specs.FaultText.{fault_words}
use Rattle.afdx_config.specs.Keys.{key_row, top_keys, system_keys, link_keys, port_keys}
use Rattle.afdx_config.specs.Keys.{cascade_keys, switch_keys, neighbour_keys}

-- of arrays, texts and words the range is that of their lengths; 0 and 0 where nothing asks for it
abbrev pub TheTopKeys : Type 0
TheTopKeys = top_keys
    ≡ key_row (codes "profile") 1 2
    ∷ key_row (codes "buffer") 64 4194304
    ∷ key_row (codes "system") 0 24
    ∷ key_row (codes "link") 0 4096
    ∷ key_row (codes "port") 0 4096 ∷ []

abbrev pub TheSystemKeys : Type 0
TheSystemKeys = system_keys
    ≡ key_row (codes "name") 1 16
    ∷ key_row (codes "port") 1 24
    ∷ key_row (codes "id") 0 65535
    ∷ key_row (codes "partition") 0 255
    ∷ key_row (codes "rate") 10 1000 ∷ []

abbrev pub TheLinkKeys : Type 0
TheLinkKeys = link_keys
    ≡ key_row (codes "vl") 0 65535
    ∷ key_row (codes "from") 1 16
    ∷ key_row (codes "to") 1 24
    ∷ key_row (codes "bag_ms") 1 128
    ∷ key_row (codes "lmin") 64 1518
    ∷ key_row (codes "lmax") 64 1518
    ∷ key_row (codes "jitter_us") 0 128000
    ∷ key_row (codes "priority") 0 0
    ∷ key_row (codes "policing") 0 0
    ∷ key_row (codes "latency_us") 1 100000
    ∷ key_row (codes "skew_us") 1 100000
    ∷ key_row (codes "subs") 1 4 ∷ []

-- how many these are
abbrev pub last_link_key : ℕ
last_link_key = 12

abbrev pub ThePortKeys : Type 0
ThePortKeys = port_keys
    ≡ key_row (codes "system") 1 16
    ∷ key_row (codes "link") 0 65535
    ∷ key_row (codes "udp") 1 65535
    ∷ key_row (codes "kind") 0 0
    ∷ key_row (codes "depth") 1 64 ∷ []

-- of a file that describes several switches
abbrev pub TheCascadeKeys : Type 0
TheCascadeKeys = cascade_keys ≡ key_row (codes "switch") 1 24 ∷ []

abbrev pub TheSwitchKeys : Type 0
TheSwitchKeys = switch_keys
    ≡ key_row (codes "profile") 1 2
    ∷ key_row (codes "buffer") 64 4194304
    ∷ key_row (codes "system") 0 24
    ∷ key_row (codes "link") 0 4096
    ∷ key_row (codes "port") 0 4096
    ∷ key_row (codes "name") 1 16
    ∷ key_row (codes "neighbour") 0 23 ∷ []

abbrev pub TheNeighbourKeys : Type 0
TheNeighbourKeys = neighbour_keys
    ≡ key_row (codes "name") 1 16
    ∷ key_row (codes "port") 1 24
    ∷ key_row (codes "rate") 10 1000 ∷ []

-- the words of the faults, in the order of `ConfigFault`
abbrev pub TheFaultWords : Type 0
TheFaultWords = fault_words
    ≡ codes "NotToml" ∷ codes "BadProfile" ∷ codes "Missing" ∷ codes "WrongKind"
    ∷ codes "UnknownKey" ∷ codes "OutOfRange" ∷ codes "Twice" ∷ codes "NoSuchSystem"
    ∷ codes "Memory" ∷ []
