-- Each fault in a word: that of its row, which stands at its place.
use Rattle.std.specs.Prelude.{ℕ, ◌≡◌, List, [], ◌∷◌, codes, map, slice_index_or}
use Rattle.afdx_frame.specs.contracts.fault.MacFault as mac
use Rattle.afdx_frame.specs.contracts.fault.IpFault as ip
use Rattle.afdx_frame.specs.declared.fault.MacFault.{MacFault}
use Rattle.afdx_frame.specs.declared.fault.IpFault.{IpFault}
use Rattle.afdx_frame.specs.declared.fault.TheConstants.{MAC_FAULTS, IP_FAULTS}
use denote.Enum.Declared.{tag_of}

-- the words of the tables, in their order
unfoldable pub mac_words : List (List ℕ)
mac_words = map (λ row. row.1.now) MAC_FAULTS

unfoldable pub ip_words : List (List ℕ)
ip_words = map (λ row. row.1.now) IP_FAULTS

-- of bytes that are no frame of a link
abbrev pub mac_word : MacFault → List ℕ
mac_word fault = slice_index_or mac_words (tag_of mac.the_type fault) []

-- of a frame that carries no datagram
abbrev pub ip_word : IpFault → List ℕ
ip_word fault = slice_index_or ip_words (tag_of ip.the_type fault) []

-- the words that the formats fix, in the order of `MacFault`
abbrev pub TheMacWords : Type 0
TheMacWords = mac_words
    ≡ codes "too-short" ∷ codes "too-long" ∷ codes "bad-fcs" ∷ codes "bad-address" ∷ []

-- and in that of `IpFault`
abbrev pub TheIpWords : Type 0
TheIpWords = ip_words
    ≡ codes "not-ipv4" ∷ codes "bad-ip-header" ∷ codes "fragment" ∷ codes "not-udp"
    ∷ codes "bad-udp-length" ∷ []
