-- Each reason for which a receiver drops what arrived, in a word.
use Rattle.std.specs.Prelude.{ℕ, ◌≡◌, List, [], ◌∷◌, codes, map, slice_index_or}
use Rattle.afdx_frame.specs.Words.{mac_word, ip_word}
use Rattle.afdx_receive.specs.declared.reception.DropReason.{DropReason}
use Rattle.afdx_receive.specs.declared.reception.DropReason.TheVariants.{Mac, NotSubscribed}
use Rattle.afdx_receive.specs.declared.reception.DropReason.TheVariants.{Sequence, Redundant}
use Rattle.afdx_receive.specs.declared.reception.DropReason.TheVariants.{Ip, NoPort}
use Rattle.afdx_receive.specs.declared.reception.TheConstants.{DROP_REASONS}

-- a receiver's own reasons, in the order of their table, and their words
unfoldable pub own_reasons : List DropReason
own_reasons = map (λ row. row.0) DROP_REASONS

unfoldable pub own_words : List (List ℕ)
own_words = map (λ row. row.1.now) DROP_REASONS

abbrev pub own_word : ℕ → List ℕ
own_word place = slice_index_or own_words place []

-- the others are in the words of the frame's faults
abbrev pub drop_word : DropReason → List ℕ
drop_word (Mac fault) = mac_word fault
drop_word NotSubscribed = own_word 0
drop_word Sequence = own_word 1
drop_word Redundant = own_word 2
drop_word (Ip fault) = ip_word fault
drop_word NoPort = own_word 3

-- the words that the formats fix
abbrev pub TheOwnWords : Type 0
TheOwnWords = own_words
    ≡ codes "not-subscribed" ∷ codes "sequence" ∷ codes "redundant" ∷ codes "no-port" ∷ []
