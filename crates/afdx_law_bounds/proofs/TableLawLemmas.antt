-- Admitted tables, whatever arrives.
use Rattle.std.proofs.Common.{◌≡◌, ◌∙◌, ℕ, ◌*◌, ◌≤◌, ◌==◌, Bool, true, false, List, [], ◌∷◌, map}
use Rattle.std.proofs.Common.{Some, None, ap, arith, suc, zero, if◌then◌else◌}
use Rattle.std.specs.Prelude.{Contains, IfSome}
use Rattle.std.specs.List.{slice_get}
use Rattle.afdx_config.specs.Rows.{LinkRow, Rows}
use Rattle.afdx_police.specs.Laws.{EachAccountMoves, ArrivalsAreOffers}
use Rattle.afdx_law_bounds.specs.Outputs.{link_in, charge_in}
use Rattle.afdx_law_bounds.specs.Tables.{rule_of, longest_wait_of, goes_to, row_of, rows_of, output_at}
use Rattle.afdx_law_bounds.specs.TableLaws.{NothingIsLost, EachHasItsSlot, EachSlotHasCome}
use Rattle.afdx_law_bounds.proofs.ListLemmas.{contains_tail}
use Rattle.afdx_law_bounds.proofs.CarryLemmas.{bytes-carry}
use Rattle.afdx_law_bounds.proofs.OutputLemmas.{offers-enter, arrivals-in-time, arrivals-not-old, arrivals-left}
use Rattle.afdx_law_bounds.proofs.TableLemmas.{port-of-system, output-served, rows-are}

contains-mapped : {Y Z : Type 0} (f : Y → Z) (xs : List Y) (i : ℕ) (y : Y) → slice_get xs i ≡ Some y →
    Contains (map f xs) (f y)
contains-mapped f [] i y at = absurd (cc at)
contains-mapped f (x ∷ xs) zero y at = let same : x ≡ y = cc at in (0, omega arith, ap f same)
contains-mapped f (x ∷ xs) (suc i) y at = contains_tail (f x) (map f xs) (f y) (contains-mapped f xs i y at)

pub contains-row : (t : Rows) (place : ℕ) (l : LinkRow) → slice_get t.links place ≡ Some l
    → Contains (rows_of t) (row_of t l)
unfolding rows_of
contains-row t place l at = contains-mapped (row_of t) t.links place l at

-- a link's frames may wait as long as its latency
waits-long : (t : Rows) (l : LinkRow) → IfSome (longest_wait_of t l) (λ wait. 1000 * l.latency_us ≤ wait)
unfolding longest_wait_of
waits-long t l = by_profile (t.profile == 2)
  where
    by_profile : (second : Bool) → IfSome (if second then Some (1000 * l.latency_us) else None)
        (λ wait. 1000 * l.latency_us ≤ wait)
    by_profile true = omega arith
    by_profile false = tt

module _ {X : Type 0} where
  pub nothing-lost : EachAccountMoves → ArrivalsAreOffers → NothingIsLost X
  nothing-lost moves offers item_of bytes_of t side system s arrivals o =
      offers-enter moves offers item_of (link_in bytes_of) (charge_in bytes_of (rows_of t))
      (rows_of t) (output_at t side s.port) arrivals
      (output-served t side system s o.lawful o.admitted o.stands).served
      (bytes-carry item_of bytes_of (rows_of t) (rows-are t o.lawful) o.keeps_bytes) o.timed

  pub has-slot : EachAccountMoves → ArrivalsAreOffers → EachHasItsSlot X
  unfolding rule_of
  has-slot moves offers item_of bytes_of t side system s arrivals turns place l o at goes are k d lt named =
      let served = (output-served t side system s o.lawful o.admitted o.stands).served in
      let carries = bytes-carry item_of bytes_of (rows_of t) (rows-are t o.lawful) o.keeps_bytes in
      let row = contains-row t place l at in
      let there : goes_to t l s.port ≡ true = (port-of-system t system s o.lawful o.stands).goes l ∙ goes in
      let old = arrivals-not-old moves offers item_of (link_in bytes_of) (charge_in bytes_of (rows_of t)) (rows_of t)
      (output_at t side s.port) arrivals turns
      (row_of t l) served carries o.timed row there are (waits-long t l) in
      let soon = arrivals-in-time moves offers item_of (link_in bytes_of) (charge_in bytes_of (rows_of t)) (rows_of t)
      (output_at t side s.port) arrivals turns (row_of t l) served carries o.timed row there are in
      (old k d lt named, soon k d lt named)

  pub slot-has-come : EachAccountMoves → ArrivalsAreOffers → EachSlotHasCome X
  unfolding rule_of
  slot-has-come moves offers item_of bytes_of t side system s arrivals turns place l until entry e o
      at goes are next stands named over =
      let served = (output-served t side system s o.lawful o.admitted o.stands).served in
      let carries = bytes-carry item_of bytes_of (rows_of t) (rows-are t o.lawful) o.keeps_bytes in
      let there : goes_to t l s.port ≡ true = (port-of-system t system s o.lawful o.stands).goes l ∙ goes in
      arrivals-left moves offers item_of (link_in bytes_of) (charge_in bytes_of (rows_of t))
      (rows_of t) (output_at t side s.port) arrivals turns
      (row_of t l) until entry e served carries o.timed
      (contains-row t place l at) there are (waits-long t l) next stands named over
