-- The keys of switches, of which the least is that of the first turn.
use Rattle.std.specs.Prelude.{◌≡◌, ◌≢◌, ℕ, ◌+◌, ◌*◌, Some, List, length, slice_get}
use Rattle.afdx_frame.specs.declared.link.Side.{Side}
use Rattle.afdx_network.specs.Network.{TellsOrder}
use Rattle.afdx_port.specs.Keys.{IsLeastIn}
use Rattle.afdx_network.specs.Order.{side_number}
use Rattle.afdx_network.specs.declared.network.Network.{Network}

-- one number for where a turn stands, its side and the number of its switch, which count in this
-- order; there are fewer than 32 switches
abbrev pub key_of : ℕ → Side → ℕ → ℕ
key_of order side switch = 64 * order + 32 * side_number side + switch

-- this is the key of the switch of this number, by the first turn of its network
abbrev pub IsKey : ℕ → Network → ℕ → Type 0
IsKey switch n key =
    (order : ℕ) × (side : Side) × TellsOrder n order side × (key ≡ key_of order side switch)

-- these are the keys of these networks
pub record AreKeys (networks : List Network) (keys : List ℕ) : Type 0 where
  pub count : length keys ≡ length networks
  pub each : (k key : ℕ) (n : Network) →
      slice_get keys k ≡ Some key →
      slice_get networks k ≡ Some n →
      IsKey k n key

-- this is the least of these keys
abbrev pub IsLeast : List ℕ → ℕ → Type 0
IsLeast keys least = IsLeastIn keys 0 (length keys) least

-- all networks are what they were, but for that of this switch
abbrev pub AreOthersSame : ℕ → List Network → List Network → Type 0
AreOthersSame switch old new = (k : ℕ) (n : Network) →
    k ≢ switch →
    slice_get new k ≡ Some n →
    slice_get old k ≡ Some n
