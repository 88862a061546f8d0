-- Two sources that are read at once: a head is looked for, and an item is given.
use Rattle.std.proofs.Common.{◌≡◌, ℕ, ◌+◌, ◌≤◌, List, [], ◌∷◌, length, refl, sym, subst, arith}
use Rattle.std.proofs.Common.{Option, Some, None, Bool, true, false, nat_lt, if◌then◌else◌, inl, inr}
use Rattle.std.proofs.lemmas.Bool.{ltb-false, ltb-true}
use Rattle.afdx_frame.specs.declared.by_side.BySide.{BySide}
use Rattle.afdx_input_lines.specs.declared.fault.RunFault.{RunFault}
use Rattle.afdx_input_lines.specs.declared.next.Progress.{Progress}
use Rattle.afdx_input_lines.specs.declared.next.Progress.TheVariants.{Given, NotYet}
use Rattle.afdx_input_sources.specs.Engine.{Item}
use Rattle.afdx_input_sources.specs.declared.ahead.Ahead.{Ahead}
use Rattle.afdx_input_sources.specs.declared.ahead.AtHead.{AtHead}
use Rattle.afdx_input_sources.specs.declared.ahead.AtHead.TheVariants as at
use Rattle.afdx_input_sources.specs.declared.merged.Merged.{Merged}
use Rattle.afdx_input_sources.specs.declared.merged.Nth.{Nth}
use Rattle.afdx_input_sources.specs.declared.merged.Nth.TheVariants.{First, Second}
use Rattle.afdx_input_sources.specs.MergedSource.{AreMerged, AreMergedToEnd, CameBy, CameFirst, FollowsBoth, Front, Gone}
use Rattle.afdx_input_sources.specs.MergedSource.{GivesAtOnce, IsAhead, IsAheadBy, IsBefore, IsFirst, IsInTurn, IsKnown, IsSought}
use Rattle.afdx_input_sources.specs.MergedSource.{NoneIsBefore, OfTwo, Order, Stands, StopsMerging, Unsought}
use Rattle.afdx_input_sources.specs.MergedSource.{front_by, front_of, items_of, latest_by, latest_of_both}
use Rattle.afdx_input_sources.specs.MergedSource.{later_of, next_of, taken_of, with_own}
use Rattle.afdx_input_sources.specs.Merging.{is_earlier}

-- what isn't given isn't given yet
pub not-given : (p : Progress) → (p ≡ Given → ⊥) → p ≡ NotYet
not-given Given h = absurd (h refl)
not-given NotYet h = refl

-- ---- the newest time

pub latest-timed : {H : Type 0} (time : H → Option ℕ) (past : List (Item H)) (x : Item H) (t : ℕ)
    → time x.head ≡ Some t → latest_by time (x ∷ past) ≡ t
unfolding latest_by
latest-timed time past x t is = rw is refl

pub latest-at-once : {H : Type 0} (time : H → Option ℕ) (past : List (Item H)) (x : Item H)
    → time x.head ≡ None → latest_by time (x ∷ past) ≡ latest_by time past
unfolding latest_by
latest-at-once time past x is = rw is refl

-- ---- what was taken of each

taken-length : {H : Type 0} (past : List (OfTwo H))
    → length past ≡ length (taken_of First past) + length (taken_of Second past)
unfolding taken_of
taken-length [] = refl
taken-length (z ∷ past) = by z.from (taken-length past)
  where
    by : (n : Nth) → length past ≡ length (taken_of First past) + length (taken_of Second past)
        → length (z ∷ past) ≡ length (with_own First n z.item (taken_of First past))
        + length (with_own Second n z.item (taken_of Second past))
    by First h = omega (arith, h)
    by Second h = omega (arith, h)

-- ---- which comes first, once a head is known

module _ {H : Type 0} (time : H → Option ℕ) where
  came-first : (past : List (OfTwo H)) (x y : Front H) → CameFirst time past Unsought y → CameFirst time past x y
  came-first [] x y h = tt
  came-first (z ∷ past) x y h = by z.from h
    where
      by : (n : Nth) → CameBy time (CameFirst time past) n z.item Unsought y
          → CameBy time (CameFirst time past) n z.item x y
      by First k = k
      by Second k = absurd k.0

  at-once : (t : Option ℕ) (y : Front H) → IsFirst time t Unsought → IsFirst time t y
  at-once None y h = tt
  at-once (Some t) y h = absurd h

  came-second : (past : List (OfTwo H)) (x y : Front H) → CameFirst time past x Unsought → CameFirst time past x y
  came-second [] x y h = tt
  came-second (z ∷ past) x y h = by z.from (λ k. came-second past (Stands z.item) y k) h
    where
      by : (n : Nth) → (CameFirst time past (Stands z.item) Unsought → CameFirst time past (Stands z.item) y)
          → CameBy time (CameFirst time past) n z.item x Unsought → CameBy time (CameFirst time past) n z.item x y
      by First more k = (at-once (time z.item.head) y k.0, more k.1)
      by Second more k = k

  module _ {S : Type 0} (current : S → Item H) (past : List (OfTwo H)) where
    sought-first : (old new : Ahead S) (y : Front H) → IsSought old new
        → CameFirst time past (front_of current old) y → CameFirst time past (front_of current new) y
    sought-first old new y (inl same) h =
        subst (λ (a : Ahead S). CameFirst time past (front_of current a) y) (sym same) h
    sought-first old new y (inr unknown) h = came-first past (front_of current new) y (rw unknown at h)

    sought-second : (x : Front H) (old new : Ahead S) → IsSought old new
        → CameFirst time past x (front_of current old) → CameFirst time past x (front_of current new)
    sought-second x old new (inl same) h =
        subst (λ (a : Ahead S). CameFirst time past x (front_of current a)) (sym same) h
    sought-second x old new (inr unknown) h = came-second past x (front_of current new) (rw unknown at h)

-- ---- of two heads

by-test-first : (t : Bool) → (if t then Second else First) ≡ First → t ≡ false
by-test-first true e = absurd (cc)
by-test-first false e = refl

by-test-second : (t : Bool) → (if t then Second else First) ≡ Second → t ≡ true
by-test-second true e = refl
by-test-second false e = absurd (cc)

test-first : (y x : ℕ) → later_of y x ≡ First → nat_lt y x ≡ false
test-first y x e = by-test-first (nat_lt y x) e

test-second : (y x : ℕ) → later_of y x ≡ Second → nat_lt y x ≡ true
test-second y x e = by-test-second (nat_lt y x) e

earlier-so : (a b : Option ℕ) (y x : ℕ) (t : Bool) → a ≡ Some y → b ≡ Some x → nat_lt y x ≡ t → is_earlier a b ≡ t
earlier-so a b y x t is_y is_x e = rw (is_y, is_x) e

module _ {H : Type 0} (time : H → Option ℕ) where
  first-so : (y : Item H) (a : Option ℕ) (s t : ℕ) → a ≡ Some t → time y.head ≡ Some s → nat_lt s t ≡ false
      → IsFirst time a (Stands y)
  first-so y a s t is_x is_y e = rw is_x (earlier-so (time y.head) (Some t) s t false is_y refl e)

  first-gone : (a : Option ℕ) → IsFirst time a Gone
  first-gone None = tt
  first-gone (Some t) = tt

  first-none : (a : Option ℕ) (y : Front H) → a ≡ None → IsFirst time a y
  first-none a y e = rw e tt

at-once-before : (a b : Option ℕ) (x : ℕ) → a ≡ None → b ≡ Some x → is_earlier a b ≡ true
at-once-before a b x none is = rw (none, is) refl

module _ {H S I : Type 0} (order : Order H) (follows : List (Item H) → Item H → Type 0)
    (keeps : (past : List (Item H)) (x : Item H) → follows past x → IsInTurn order past x)
    (current : S → Item H) (gave ended : I → S → I → List (Item H) → Type 0) where
  -- ---- one of the two

  -- an item was found that has a time
  pub seek-found : (latest : ℕ) (start : I) (old new : Ahead S) (input input' : I) (taken : List (Item H)) (t : ℕ)
      → old.head ≡ at.Unknown → new.head ≡ at.Item t
      → IsAhead order follows current gave ended latest start old input taken
      → gave start new.source input' (current new.source ∷ taken) → follows taken (current new.source)
      → order.time (current new.source).head ≡ Some t
      → IsAhead order follows current gave ended latest start new input' taken
  seek-found latest start old new input input' taken t unknown found h gave_it own is =
      let before = rw unknown at h.none_before in
      let later = (keeps taken (current new.source) own).later in
      let newest = latest-timed order.time taken (current new.source) t is in record {
        known = rw found (gave_it, own, is);
        none_before = rw found (omega (arith, before, later, newest));
        few = h.few;
      }

  -- ---- both

  module _ (start : BySide I) (past : List (OfTwo H)) where
    abbrev pub Known : Merged S → BySide I → Type 0
    Known merged inputs = AreMerged order follows current gave ended start merged inputs past

    abbrev Latest : ℕ
    Latest = latest_of_both order.time past

    abbrev pub Follows : Merged S → BySide I → OfTwo H → Type 0
    Follows merged inputs z =
        AreMerged order follows current gave ended start merged inputs (z ∷ past) × FollowsBoth order follows past z

    -- the head of the first was looked for
    pub sought-one : (merged : Merged S) (inputs : BySide I) (first : Ahead S) (input : I) (from : Nth)
        → Known merged inputs
        → IsAhead order follows current gave ended Latest start.a first input (taken_of First past)
        → IsSought merged.first first
        → Known (record { first = first; second = merged.second; from = from }) (record { a = input; b = inputs.b })
    sought-one merged inputs first input from p ahead sought = record {
      first = ahead;
      second = p.second;
      came_first = sought-first order.time current past merged.first first (front_of current merged.second) sought
          p.came_first;
    }

    -- then that of the second
    pub sought-other : (merged : Merged S) (inputs : BySide I) (second : Ahead S) (input : I) (from : Nth)
        → Known merged inputs
        → IsAhead order follows current gave ended Latest start.b second input (taken_of Second past)
        → IsSought merged.second second
        → Known (record { first = merged.first; second = second; from = from }) (record { a = inputs.a; b = input })
    sought-other merged inputs second input from p ahead sought = record {
      first = p.first;
      second = ahead;
      came_first = sought-second order.time current past (front_of current merged.first) merged.second second sought
          p.came_first;
    }

    -- ---- an item is given

    -- of the first, at this time; nobody knows its head then
    gives-first : (merged : Merged S) (inputs : BySide I) (first : Ahead S) (input : I) (from : Nth) (latest : ℕ)
        → Known merged inputs → first.head ≡ at.Unknown
        → gave start.a first.source input (current first.source ∷ taken_of First past)
        → follows (taken_of First past) (current first.source)
        → CameFirst order.time past (Stands (current first.source)) (front_of current merged.second)
        → IsFirst order.time (order.time (current first.source).head) (front_of current merged.second)
        → latest_of_both order.time (record { from = First; item = current first.source } ∷ past) ≡ latest
        → Latest ≤ latest → latest ≤ latest_by order.time (current first.source ∷ taken_of First past)
        → NoneIsBefore order.time latest merged.second.head (taken_of Second past)
        → Follows (record { first = first; second = merged.second; from = from })
        (record { a = input; b = inputs.b }) (record { from = First; item = current first.source })
    unfolding taken_of
    gives-first merged inputs first input from latest p still gave_it own came is newest later less before =
        let few = (keeps (taken_of First past) (current first.source) own).few in
        let few_other = p.second.few in
        let sum = taken-length past in (
          record {
            first = record {
              known = rw still gave_it;
              none_before = rw (still, newest) less;
              few = omega (arith, few);
            };
            second = record { known = p.second.known; none_before = rw newest before; few = p.second.few };
            came_first = (is, came);
          },
          record { own = own; later = rw newest later; few = omega (arith, sum, few, few_other) },
        )

    -- of the second
    gives-second : (merged : Merged S) (inputs : BySide I) (second : Ahead S) (input : I) (from : Nth) (latest : ℕ)
        → Known merged inputs → second.head ≡ at.Unknown
        → gave start.b second.source input (current second.source ∷ taken_of Second past)
        → follows (taken_of Second past) (current second.source)
        → CameFirst order.time past (front_of current merged.first) (Stands (current second.source))
        → IsBefore order.time (order.time (current second.source).head) (front_of current merged.first)
        → latest_of_both order.time (record { from = Second; item = current second.source } ∷ past) ≡ latest
        → Latest ≤ latest → latest ≤ latest_by order.time (current second.source ∷ taken_of Second past)
        → NoneIsBefore order.time latest merged.first.head (taken_of First past)
        → Follows (record { first = merged.first; second = second; from = from })
        (record { a = inputs.a; b = input }) (record { from = Second; item = current second.source })
    unfolding taken_of
    gives-second merged inputs second input from latest p still gave_it own came is newest later less before =
        let few = (keeps (taken_of Second past) (current second.source) own).few in
        let few_other = p.first.few in
        let sum = taken-length past in (
          record {
            first = record { known = p.first.known; none_before = rw newest before; few = p.first.few };
            second = record {
              known = rw still gave_it;
              none_before = rw (still, newest) less;
              few = omega (arith, few);
            };
            came_first = (is, came);
          },
          record { own = own; later = rw newest later; few = omega (arith, sum, few, few_other) },
        )

    -- one of the first that comes at once
    pub first-at-once : (merged : Merged S) (inputs : BySide I) (new : Ahead S) (input : I) (from : Nth)
        → Known merged inputs → merged.first.head ≡ at.Unknown
        → GivesAtOnce order follows current gave ended Latest start.a new input (taken_of First past)
        → Follows (record { first = new; second = merged.second; from = from }) (record { a = input; b = inputs.b })
        (record { from = First; item = current new.source })
    first-at-once merged inputs new input from p unknown g =
        let x = current new.source in
        let came : CameFirst order.time past Unsought (front_of current merged.second) = rw unknown at p.came_first in
        let less = g.none_before in
        let same = latest-at-once order.time (taken_of First past) x g.at_once in
        gives-first merged inputs new input from Latest p g.still g.gave_it g.own
        (came-first order.time past (Stands x) (front_of current merged.second) came)
        (first-none order.time (order.time x.head) (front_of current merged.second) g.at_once)
        (latest-at-once order.time (items_of past) x g.at_once) (omega arith) (omega (arith, less, same))
        p.second.none_before

    -- or of the second
    pub second-at-once : (merged : Merged S) (inputs : BySide I) (new : Ahead S) (input : I) (from : Nth)
        → Known merged inputs → IsKnown merged.first.head → merged.second.head ≡ at.Unknown
        → GivesAtOnce order follows current gave ended Latest start.b new input (taken_of Second past)
        → Follows (record { first = merged.first; second = new; from = from }) (record { a = inputs.a; b = input })
        (record { from = Second; item = current new.source })
    second-at-once merged inputs new input from p known unknown g =
        let y = current new.source in
        let came : CameFirst order.time past (front_of current merged.first) Unsought = rw unknown at p.came_first in
        let less = g.none_before in
        let same = latest-at-once order.time (taken_of Second past) y g.at_once in
        gives-second merged inputs new input from Latest p g.still g.gave_it g.own
        (came-second order.time past (front_of current merged.first) (Stands y) came)
        (by merged.first.head known p.first.known)
        (latest-at-once order.time (items_of past) y g.at_once) (omega arith) (omega (arith, less, same))
        p.first.none_before
      where
        by : (head : AtHead) → IsKnown head
            → IsAheadBy order follows (gave start.a merged.first.source inputs.a)
            (ended start.a merged.first.source inputs.a) (current merged.first.source) head (taken_of First past)
            → IsBefore order.time (order.time (current new.source).head)
            (front_by head (current merged.first.source))
        by at.Unknown k h = absurd k
        by (at.Item t) k h = at-once-before (order.time (current new.source).head)
            (order.time (current merged.first.source).head) t g.at_once h.2
        by at.Over k h = tt

    -- ---- the next one that has a time

    abbrev Merged-of : S → AtHead → S → AtHead → Nth → Merged S
    Merged-of sa ha sb hb from =
        record { first = record { source = sa; head = ha }; second = record { source = sb; head = hb }; from = from }

    module _ (inputs : BySide I) (from from' : Nth) (sa sb : S) where
      -- it is of the first
      first-stands : (t : ℕ) (hb : AtHead) → Known (Merged-of sa (at.Item t) sb hb from) inputs
          → IsFirst order.time (order.time (current sa).head) (front_by hb (current sb))
          → NoneIsBefore order.time t hb (taken_of Second past)
          → Follows (Merged-of sa at.Unknown sb hb from') inputs (record { from = First; item = current sa })
      first-stands t hb p is before =
          let (gave_it, own, at_t) = p.first.known in
          let own_latest = latest-timed order.time (taken_of First past) (current sa) t at_t in
          let later : Latest ≤ t = p.first.none_before in
          gives-first (Merged-of sa (at.Item t) sb hb from) inputs (record { source = sa; head = at.Unknown })
          inputs.a
          from' t p refl gave_it own p.came_first is
          (latest-timed order.time (items_of past) (current sa) t at_t) later (omega (arith, own_latest)) before

      pub take-first : (ha hb : AtHead) → IsKnown ha → IsKnown hb → next_of ha hb ≡ Some First
          → Known (Merged-of sa ha sb hb from) inputs
          → Follows (Merged-of sa at.Unknown sb hb from') inputs (record { from = First; item = current sa })
      take-first at.Unknown hb ka kb e p = absurd ka
      take-first (at.Item x) at.Unknown ka kb e p = absurd kb
      take-first (at.Item x) (at.Item y) ka kb e p =
          let n : later_of y x ≡ First = cc in
          let test = test-first y x n in
          let more = ltb-false y x test in
          first-stands x (at.Item y) p
          (first-so order.time (current sb) (order.time (current sa).head) y x p.first.known.2 p.second.known.2 test)
          (omega (arith, more))
      take-first (at.Item x) at.Over ka kb e p =
          first-stands x at.Over p (first-gone order.time (order.time (current sa).head)) tt
      take-first at.Over at.Unknown ka kb e p = absurd kb
      take-first at.Over (at.Item y) ka kb e p = absurd (cc)
      take-first at.Over at.Over ka kb e p = absurd (cc)

      -- it is of the second
      second-stands : (ha : AtHead) (t : ℕ) → Known (Merged-of sa ha sb (at.Item t) from) inputs
          → IsBefore order.time (order.time (current sb).head) (front_by ha (current sa))
          → NoneIsBefore order.time t ha (taken_of First past)
          → Follows (Merged-of sa ha sb at.Unknown from') inputs (record { from = Second; item = current sb })
      second-stands ha t p is before =
          let (gave_it, own, at_t) = p.second.known in
          let own_latest = latest-timed order.time (taken_of Second past) (current sb) t at_t in
          let later : Latest ≤ t = p.second.none_before in
          gives-second (Merged-of sa ha sb (at.Item t) from) inputs (record { source = sb; head = at.Unknown })
          inputs.b
          from' t p refl gave_it own p.came_first is
          (latest-timed order.time (items_of past) (current sb) t at_t) later (omega (arith, own_latest)) before

      pub take-second : (ha hb : AtHead) → IsKnown ha → IsKnown hb → next_of ha hb ≡ Some Second
          → Known (Merged-of sa ha sb hb from) inputs
          → Follows (Merged-of sa ha sb at.Unknown from') inputs (record { from = Second; item = current sb })
      take-second at.Unknown hb ka kb e p = absurd ka
      take-second (at.Item x) at.Unknown ka kb e p = absurd kb
      take-second (at.Item x) (at.Item y) ka kb e p =
          let n : later_of y x ≡ Second = cc in
          let test = test-second y x n in
          let less = ltb-true y x test in
          second-stands (at.Item x) y p
          (earlier-so (order.time (current sb).head) (order.time (current sa).head) y x true p.second.known.2
          p.first.known.2 test)
          (omega (arith, less))
      take-second (at.Item x) at.Over ka kb e p = absurd (cc)
      take-second at.Over at.Unknown ka kb e p = absurd kb
      take-second at.Over (at.Item y) ka kb e p = second-stands at.Over y p tt tt
      take-second at.Over at.Over ka kb e p = absurd (cc)

      -- there is none
      pub take-none : (ha hb : AtHead) → IsKnown ha → IsKnown hb → next_of ha hb ≡ None
          → Known (Merged-of sa ha sb hb from) inputs
          → AreMergedToEnd order follows current gave ended start (Merged-of sa ha sb hb from') inputs past
      take-none at.Unknown hb ka kb e p = absurd ka
      take-none (at.Item x) at.Unknown ka kb e p = absurd kb
      take-none (at.Item x) (at.Item y) ka kb e p = absurd (cc)
      take-none (at.Item x) at.Over ka kb e p = absurd (cc)
      take-none at.Over at.Unknown ka kb e p = absurd kb
      take-none at.Over (at.Item y) ka kb e p = absurd (cc)
      take-none at.Over at.Over ka kb e p =
          record { first = p.first.known; second = p.second.known; came_first = p.came_first }

    -- ---- a fault

    module _ (stopped : I → S → I → List (Item H) → RunFault → Type 0) (fault : RunFault) where
      pub stops-second : (merged : Merged S) (inputs : BySide I) (second : Ahead S) (input : I)
          → Known merged inputs → IsKnown merged.first.head → merged.second.head ≡ at.Unknown
          → stopped start.b second.source input (taken_of Second past) fault
          → StopsMerging order follows current gave ended stopped start
          (record { first = merged.first; second = second; from = Second }) (record { a = inputs.a; b = input }) past
          fault
      stops-second merged inputs second input p known unknown stops =
          inr (record {
            from = refl;
            first = p.first;
            second = stops;
            known = known;
            came_first = rw unknown at p.came_first;
          })
