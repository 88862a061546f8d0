-- Places that are found by the identifiers of links.
use Rattle.std.specs.Prelude.{◌≡◌, ℕ, ◌+◌, ◌*◌, ◌/◌, ◌%◌, ◌≤◌, Option, Some, List, length}
use Rattle.std.specs.Prelude.{option_map, option_and_then, slice_get}
use Rattle.std.specs.Option.{option_flatten}

-- so many identifiers are on a page
abbrev pub page_size : ℕ
page_size = 16

-- identifiers lie on pages: the number of each page that has slots, and their slots by number
pub record Paged : Type 0 where
  pub pages : List (Option ℕ)
  pub slots : List (Option ℕ)

-- what stands at a place, if anything does
abbrev pub found_at : List (Option ℕ) → ℕ → Option ℕ
found_at items place = option_flatten (slice_get items place)

abbrev pub number_in : Paged → ℕ → Option ℕ
number_in paged page = found_at paged.pages page

-- the slot of an identifier, if its page has slots
abbrev pub slot_in : Paged → ℕ → Option ℕ
slot_in paged vl = option_map (λ number. page_size * number + vl % page_size)
    (number_in paged (vl / page_size))

-- the place in it
unfoldable pub place_in : Paged → ℕ → Option ℕ
place_in paged vl = option_and_then (λ slot. found_at paged.slots slot) (slot_in paged vl)

-- each page that has slots has its own
pub record IsPaged (paged : Paged) : Type 0 where
  pub count : ℕ
  pub whole : length paged.slots ≡ page_size * count
  pub within : (page number : ℕ) →
      number_in paged page ≡ Some number → page_size * number + page_size ≤ length paged.slots
  pub own : (a b number : ℕ) →
      number_in paged a ≡ Some number → number_in paged b ≡ Some number → a ≡ b
