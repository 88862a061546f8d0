-- The keys of ports that are served together.
use Rattle.std.specs.Prelude.{◌≡◌, ℕ, ◌+◌, ◌*◌, ◌<◌, ◌≤◌, List, Some, slice_get}

-- how many places a key has room for, more than there are ports
abbrev pub key_places : ℕ
key_places = 32

-- one number for a port's order and its place, in which the order counts first
abbrev pub key_of : ℕ → ℕ → ℕ
key_of order place = key_places * order + place

-- of the numbers from one place to before another this is the least
pub record IsLeastIn (numbers : List ℕ) (from to least : ℕ) : Type 0 where
  pub place : ℕ
  pub low : from ≤ place
  pub high : place < to
  pub own : slice_get numbers place ≡ Some least
  pub lowest : (i n : ℕ) → from ≤ i → i < to → slice_get numbers i ≡ Some n → least ≤ n

-- the keys of ports that stand side by side are looked at in groups of this size
abbrev pub group_size : ℕ
group_size = 4

-- the least of each group is known
abbrev pub AreRanked : List ℕ → List ℕ → Type 0
AreRanked keys least = (group key : ℕ) → slice_get least group ≡ Some key →
    IsLeastIn keys (group_size * group) (group_size * group + group_size) key
