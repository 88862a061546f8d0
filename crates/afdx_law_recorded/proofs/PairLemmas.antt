-- The partner of each frame is the one at its place on the other side.
use Rattle.std.proofs.Common.{◌≡◌, ℕ, zero, suc, ◌+◌, ◌*◌, ◌/◌, ◌-◌, ◌≤◌, ◌<◌, Bool, true, false, List, [], ◌∷◌, ◌++◌, length}
use Rattle.std.proofs.Common.{map, reverse, refl, sym, ap, ap₂, ◌∙◌, subst, arith}
use Rattle.std.specs.Prelude.{◌&&◌, ◌||◌, not, nat_eq, nat_le, nat_lt, if◌then◌else◌, Option, Some, None, filter}
use Rattle.std.specs.List.{AllByRecursion, list_any}
use Rattle.std.proofs.Math.Nat.{div-mul-le_self, div-zero, mul-le-mul_left}
use Rattle.std.proofs.lemmas.Nat.{le-div}
use Rattle.std.proofs.lemmas.Bool.{and_from, and_parts, cond-true, cond-false, eq-eqb, eqb-true, le-leb, leb-true}
use Rattle.std.proofs.lemmas.Bool.{ltb-true, or_left}
use Rattle.std.proofs.lemmas.List.{append_assoc, map-append, reverse-reverse}
use Rattle.std.proofs.lemmas.Slice.Eq.{bytes_eq-Decides}
use Rattle.afdx_frame.specs.Sides.{is_side}
use Rattle.afdx_frame.specs.declared.link.Side.{Side}
use Rattle.afdx_frame.specs.declared.link.Side.TheVariants.{A, B}
use Rattle.afdx_frame.proofs.SideLemmas.{is_side-same}
use Rattle.afdx_config.specs.Numbers.{after_steps, next_number}
use Rattle.afdx_conform.specs.Levels.{parts}
use Rattle.afdx_conform.proofs.EveryLemmas.{reverse-first}
use Rattle.afdx_lawful.specs.Accepted.{ComeUpTo}
use Rattle.afdx_lawful.specs.Alone.{first_number, flawed, found_alone, number_after, number_in, other_number}
use Rattle.afdx_lawful.specs.Alone.{times_with_room, too_soon}
use Rattle.afdx_lawful.specs.Flaws.{common, is_copy, is_whole, whole_of}
use Rattle.afdx_lawful.specs.Judged.{found_at, found_coming, found_of, found_whole}
use Rattle.afdx_lawful.specs.Judged.{found_with, is_cut_of, single_at, singles, waiting_of}
use Rattle.afdx_lawful.specs.Partners.{Waiting, had_begun, is_before, is_cut, joined, may_pair, other, partner, waiting}
use Rattle.afdx_lawful.specs.Partners.{waits_now, went_on, without_first}
use Rattle.afdx_lawful.specs.Sources.{Came, Source, apart, apart_by, hold, on_side, slip, slow}
use Rattle.afdx_lawful.specs.declared.finding.SenderFinding.{SenderFinding}
use Rattle.afdx_lawful.specs.declared.finding.SenderFinding.TheVariants.{Apart, Differs}
use Rattle.afdx_lawful.proofs.AcceptedLemmas.{come_on}
use Rattle.afdx_lawful.proofs.CleanLemmas.{AreClean, all_clean, no_parts, whole_same}
use Rattle.afdx_law_recorded.specs.Pairs.{AreAwaited, AreInPairs, AreNumberedByPlace, ArePair, ArePairsByPlace}
use Rattle.afdx_law_recorded.specs.Pairs.{IsQuietSource, NoneIsCut, QuietIsInPairs, QuietIsNumbered, UncutIsInPairs}

-- ---- lists of nothing

none-mapped : {X Y : Type 0} (f : X → Y) (xs : List X) → map f xs ≡ [] → xs ≡ []
none-mapped f [] h = refl
none-mapped f (x ∷ xs) h = absurd (cc h)

none-reversed : {X : Type 0} (xs : List X) → reverse xs ≡ [] → xs ≡ []
none-reversed xs h = sym (reverse-reverse xs) ∙ ap reverse h

empty-where : (b : Bool) (f : SenderFinding) → (if b then [] else f ∷ []) ≡ [] → b ≡ true
empty-where true f h = refl
empty-where false f h = absurd (cc h)

-- ---- what is known of a frame, by those before it, of which nothing is found

record IsQuietAfter (s : Source) (past : List Came) (x : Came) : Type 0 where
  number : other_number s x (number_after s (on_side x.side past)) ≡ []
  with : found_with s x (partner s x (waiting s (other x.side) past)) ≡ []

unfoldable AreQuiet : Source → List Came → Type 0
AreQuiet s [] = Unit {0}
AreQuiet s (x ∷ past) = IsQuietAfter s past x × AreQuiet s past

module _ (s : Source) (paired : s.is_paired ≡ true) where
  quiet-after : (past : List Came) (x : Came) → is_whole x ≡ true → whole_of past ≡ past → found_of s past x ≡ [] →
      IsQuietAfter s past x
  unfolding found_of found_alone
  quiet-after past x whole all h =
      let found : found_whole s past x ≡ [] =
      sym (cond-true (is_whole x) (found_whole s past x) (flawed s x) whole) ∙ h in
      let both = no_parts (found_alone s (on_side x.side (whole_of past)) x)
      (found_with s x (partner s x (waiting_of s (other x.side) past))) found in
      let first = no_parts (flawed s x)
      (other_number s x (number_after s (on_side x.side (whole_of past)))
      ++ too_soon s x (times_with_room s (on_side x.side (whole_of past)))) both.0 in
      let second = no_parts (other_number s x (number_after s (on_side x.side (whole_of past))))
      (too_soon s x (times_with_room s (on_side x.side (whole_of past)))) first.1 in
      let those : waiting_of s (other x.side) past ≡ waiting s (other x.side) past =
      cond-true s.is_paired (waiting s (other x.side) (whole_of past)) [] paired
      ∙ ap (waiting s (other x.side)) all in
      record {
        number = subst (λ (l : List Came). other_number s x (number_after s (on_side x.side l)) ≡ []) all second.0;
        with = subst (λ (l : List Waiting). found_with s x (partner s x l) ≡ []) those both.1;
      }

  all-quiet : (xs : List Came) → AreClean s xs → found_coming s xs ≡ [] → AreQuiet s xs
  unfolding found_coming AreClean AreQuiet
  all-quiet [] clean h = tt
  all-quiet (x ∷ past) clean h =
      let both = no_parts (map (found_at x.time x.side) (reverse (found_of s past x))) (found_coming s past) h in
      let none = none-reversed (found_of s past x) (none-mapped (found_at x.time x.side) _ both.0) in (
        quiet-after past x clean.0.whole (whole_same s past clean.1) none,
        all-quiet past clean.1 both.1,
      )

-- ---- numbers

number-is : (n next : ℕ) (f : SenderFinding) → (if nat_eq n next then [] else f ∷ []) ≡ [] → n ≡ next
number-is n next f h = eqb-true n next (empty-where (nat_eq n next) f h)

next-number : (s : Source) → s.by.start ≡ None → (ys : List Came) → AreNumberedByPlace ys →
    number_after s ys ≡ Some (after_steps (length ys) 0)
unfolding after_steps
next-number s start [] h = ap (first_number s) start
next-number s start (y ∷ ys) h = ap (λ n. Some (next_number n)) h.0

numbered-with : (s : Source) (x : Came) (o : Option ℕ) (n : ℕ) → o ≡ Some n → other_number s x o ≡ [] → number_in x ≡ n
numbered-with s x o n e h =
    number-is (number_in x) n _ (subst (λ (p : Option ℕ). other_number s x p ≡ []) e h)

numbered : (s : Source) → s.by.start ≡ None → (side : Side) (xs : List Came) → AreQuiet s xs →
    AreNumberedByPlace (on_side side xs)
unfolding AreQuiet
numbered s start side [] h = tt
numbered s start side (x ∷ past) h = by (is_side side x.side) refl (numbered s start side past h.1)
  where
    by : (b : Bool) → is_side side x.side ≡ b → AreNumberedByPlace (on_side side past) →
        AreNumberedByPlace (if b then x ∷ on_side side past else on_side side past)
    by true e before =
        let here : other_number s x (number_after s (on_side side past)) ≡ [] =
        subst (λ (t : Side). other_number s x (number_after s (on_side t past)) ≡ [])
        (sym (is_side-same side x.side e)) h.0.number in (
          numbered-with s x (number_after s (on_side side past)) (after_steps (length (on_side side past)) 0)
              (next-number s start (on_side side past) before) here,
          before,
        )
    by false e before = before

-- ---- none waits longer than it is held

AllHeld : Source → ℕ → List Waiting → Type 0
AllHeld s time ys = AllByRecursion (λ y. time ≤ y.frame.time + hold s) ys

Held : Source → ℕ → List Came → Type 0
Held s time xs = (side : Side) → AllHeld s time (waiting s side xs)

module _ (s : Source) where
  sooner-held : (time sooner : ℕ) (ys : List Waiting) → sooner ≤ time → AllHeld s time ys → AllHeld s sooner ys
  unfolding AllHeld
  sooner-held time sooner [] le h = tt
  sooner-held time sooner (y ∷ ys) le h = (omega (arith, le, h.0), sooner-held time sooner ys le h.1)

  held-first : (time : ℕ) (ys more : List Waiting) → AllHeld s time (ys ++ more) → AllHeld s time ys
  unfolding AllHeld
  held-first time [] more h = tt
  held-first time (y ∷ ys) more h = (h.0, held-first time ys more h.1)

  pairs-near : (x : Came) (y : Waiting) → may_pair s x y ≡ true → x.time ≤ y.frame.time + hold s
  unfolding may_pair
  pairs-near x y h =
      leb-true _ _ (and_parts (nat_eq (number_in y.frame) (number_in x)) (nat_le x.time (y.frame.time + hold s)) h).1

  -- one that is taken out was near
  held-without : (time : ℕ) (x : Came) (ys : List Waiting) → x.time ≤ time →
      AllHeld s time (without_first (may_pair s x) ys) → AllHeld s x.time ys
  unfolding AllHeld without_first
  held-without time x [] le h = tt
  held-without time x (y ∷ ys) le h = by (may_pair s x y) refl h (λ k. held-without time x ys le k)
    where
      by : (b : Bool) → may_pair s x y ≡ b →
          AllHeld s time (if b then ys else y ∷ without_first (may_pair s x) ys) →
          (AllHeld s time (without_first (may_pair s x) ys) → AllHeld s x.time ys) →
          AllHeld s x.time (y ∷ ys)
      by true e k more = (pairs-near x y e, sooner-held time x.time ys le k)
      by false e k more = (omega (arith, le, k.0), more k.1)

  held-joined : (time : ℕ) (x : Came) (past : List Came) (own others : List Waiting) → x.time ≤ time →
      AllHeld s time (joined s past x own others) → AllHeld s x.time own
  held-joined time x past own others le h = by (list_any (may_pair s x) others) h
    where
      by : (b : Bool) → AllHeld s time (if b then own else own ++ waits_now s past x ∷ []) → AllHeld s x.time own
      by true k = sooner-held time x.time own le k
      by false k = sooner-held time x.time own le (held-first time own (waits_now s past x ∷ []) k)

  held-before : (time : ℕ) (x : Came) (past : List Came) → x.time ≤ time → Held s time (x ∷ past) → Held s x.time past
  unfolding Held waiting
  held-before time x past le h side = by (is_side side x.side) (h side)
    where
      by : (b : Bool) → AllHeld s time (if b then joined s past x (waiting s side past) (waiting s (other side) past)
          else without_first (may_pair s x) (waiting s side past)) → AllHeld s x.time (waiting s side past)
      by true k = held-joined time x past (waiting s side past) (waiting s (other side) past) le k
      by false k = held-without time x (waiting s side past) le k

-- ---- pairs

pub other-other : (side : Side) → other (other side) ≡ side
other-other A = refl
other-other B = refl

own-side : (side : Side) → is_side side side ≡ true
own-side A = refl
own-side B = refl

not-other : (side : Side) → is_side (other side) side ≡ false
not-other A = refl
not-other B = refl

is-other : (a b : Side) → is_side a b ≡ false → b ≡ other a
is-other A A h = absurd (cc h)
is-other A B h = refl
is-other B A h = refl
is-other B B h = absurd (cc h)

turned : (s : Source) (x y : Came) → ArePair s x y → ArePair s y x
turned s x y h = record { same = sym h.same; x_soon = h.y_soon; y_soon = h.x_soon }

pub all-turned : (s : Source) (xs ys : List Came) → ArePairsByPlace s xs ys → ArePairsByPlace s ys xs
all-turned s [] [] h = tt
all-turned s [] (y ∷ ys) h = absurd h
all-turned s (x ∷ xs) [] h = absurd h
all-turned s (x ∷ xs) (y ∷ ys) h = (turned s x y h.0, all-turned s xs ys h.1)

pub as-long : (s : Source) (xs ys : List Came) → ArePairsByPlace s xs ys → length xs ≡ length ys
as-long s [] [] h = refl
as-long s [] (y ∷ ys) h = absurd h
as-long s (x ∷ xs) [] h = absurd h
as-long s (x ∷ xs) (y ∷ ys) h = ap suc (as-long s xs ys h.1)

abbrev frame_in : Waiting → Came
frame_in y = y.frame

-- so far the pairs are those of one place, and those that wait are ahead
record AreAligned (s : Source) (xs : List Came) : Type 0 where
  further : Side
  ahead : List Came
  paired : List Came
  splits : on_side further xs ≡ ahead ++ paired
  pairs : ArePairsByPlace s paired (on_side (other further) xs)
  waits : map frame_in (waiting s further xs) ≡ reverse ahead
  none : waiting s (other further) xs ≡ []

module _ (s : Source) (x : Came) (past : List Came) (al : AreAligned s past) where
  abbrev behind : Side
  behind = other al.further

  -- it came on the side that is ahead
  goes-ahead : is_side al.further x.side ≡ true → AreAligned s (x ∷ past)
  unfolding waiting without_first
  goes-ahead e =
      let off : is_side behind x.side ≡ false =
      subst (λ (t : Side). is_side behind t ≡ false) (is_side-same al.further x.side e) (not-other al.further) in
      let joins : joined s past x (waiting s al.further past) (waiting s behind past)
      ≡ waiting s al.further past ++ waits_now s past x ∷ [] =
      ap (λ (ys : List Waiting). joined s past x (waiting s al.further past) ys) al.none in
      record {
        further = al.further;
        ahead = x ∷ al.ahead;
        paired = al.paired;
        splits = cond-true (is_side al.further x.side) (x ∷ on_side al.further past) (on_side al.further past) e
            ∙ ap (λ (l : List Came). x ∷ l) al.splits;
        pairs = subst (λ (l : List Came). ArePairsByPlace s al.paired l)
            (sym (cond-false (is_side behind x.side) (x ∷ on_side behind past) (on_side behind past) off)) al.pairs;
        waits = ap (map frame_in) (cond-true (is_side al.further x.side)
            (joined s past x (waiting s al.further past) (waiting s behind past))
            (without_first (may_pair s x) (waiting s al.further past)) e ∙ joins)
            ∙ map-append frame_in (waiting s al.further past) (waits_now s past x ∷ [])
            ∙ ap (λ (l : List Came). l ++ x ∷ []) al.waits
            ∙ sym (reverse-first x al.ahead);
        none = cond-false (is_side behind x.side)
            (joined s past x (waiting s behind past) (waiting s (other behind) past))
            (without_first (may_pair s x) (waiting s behind past)) off
            ∙ ap (without_first (may_pair s x)) al.none;
      }

  there : is_side al.further x.side ≡ false → is_side behind x.side ≡ true
  there e = subst (λ (t : Side). is_side behind t ≡ true) (sym (is-other al.further x.side e)) (own-side behind)

  -- what waits on the side that is ahead, from the other one
  ahead-waits : (ys : List Waiting) → waiting s al.further past ≡ ys → waiting s (other behind) past ≡ ys
  ahead-waits ys is = ap (λ (t : Side). waiting s t past) (other-other al.further) ∙ is

  -- it came on the other side, where nothing is ahead
  turns : is_side al.further x.side ≡ false → waiting s al.further past ≡ [] → AreAligned s (x ∷ past)
  unfolding waiting without_first
  turns e empty =
      let none-ahead : al.ahead ≡ [] = none-reversed al.ahead (sym al.waits ∙ ap (map frame_in) empty) in
      let rest : on_side (other behind) (x ∷ past) ≡ al.paired =
      ap (λ (t : Side). on_side t (x ∷ past)) (other-other al.further)
      ∙ cond-false (is_side al.further x.side) (x ∷ on_side al.further past) (on_side al.further past) e
      ∙ al.splits ∙ ap (λ (l : List Came). l ++ al.paired) none-ahead in
      record {
        further = behind;
        ahead = x ∷ [];
        paired = on_side behind past;
        splits = cond-true (is_side behind x.side) (x ∷ on_side behind past) (on_side behind past) (there e);
        pairs = subst (λ (l : List Came). ArePairsByPlace s (on_side behind past) l) (sym rest)
            (all-turned s al.paired (on_side behind past) al.pairs);
        waits = ap (map frame_in) (cond-true (is_side behind x.side)
            (joined s past x (waiting s behind past) (waiting s (other behind) past))
            (without_first (may_pair s x) (waiting s behind past)) (there e)
            ∙ ap₂ (λ (own others : List Waiting). joined s past x own others) al.none (ahead-waits [] empty));
        none = ap (λ (t : Side). waiting s t (x ∷ past)) (other-other al.further)
            ∙ cond-false (is_side al.further x.side)
            (joined s past x (waiting s al.further past) (waiting s behind past))
            (without_first (may_pair s x) (waiting s al.further past)) e
            ∙ ap (without_first (may_pair s x)) empty;
      }

  -- it is the copy of the oldest that waits
  pairs-up : is_side al.further x.side ≡ false → (w : Waiting) (rest : List Waiting) →
      waiting s al.further past ≡ w ∷ rest → may_pair s x w ≡ true → ArePair s w.frame x → AreAligned s (x ∷ past)
  unfolding waiting without_first
  pairs-up e w rest is near pair =
      let later : List Came = reverse (map frame_in rest) in
      let last : al.ahead ≡ later ++ w.frame ∷ [] =
      sym (reverse-reverse al.ahead) ∙ ap reverse (sym al.waits ∙ ap (map frame_in) is)
      ∙ reverse-first w.frame (map frame_in rest) in
      record {
        further = al.further;
        ahead = later;
        paired = w.frame ∷ al.paired;
        splits = cond-false (is_side al.further x.side) (x ∷ on_side al.further past) (on_side al.further past) e
            ∙ al.splits ∙ ap (λ (l : List Came). l ++ al.paired) last
            ∙ append_assoc later (w.frame ∷ []) al.paired;
        pairs = subst (λ (l : List Came). ArePairsByPlace s (w.frame ∷ al.paired) l)
            (sym (cond-true (is_side behind x.side) (x ∷ on_side behind past) (on_side behind past) (there e)))
            (pair, al.pairs);
        waits = ap (map frame_in) (cond-false (is_side al.further x.side)
            (joined s past x (waiting s al.further past) (waiting s behind past))
            (without_first (may_pair s x) (waiting s al.further past)) e
            ∙ ap (without_first (may_pair s x)) is
            ∙ cond-true (may_pair s x w) rest (w ∷ without_first (may_pair s x) rest) near)
            ∙ sym (reverse-reverse (map frame_in rest));
        none = cond-true (is_side behind x.side)
            (joined s past x (waiting s behind past) (waiting s (other behind) past))
            (without_first (may_pair s x) (waiting s behind past)) (there e)
            ∙ ap₂ (λ (own others : List Waiting). joined s past x own others) al.none (ahead-waits (w ∷ rest) is)
            ∙ cond-true (list_any (may_pair s x) (w ∷ rest)) [] (waits_now s past x ∷ [])
            (or_left (may_pair s x w) (list_any (may_pair s x) rest) near);
      }

-- ---- the oldest that waits has the next number, and is near

numbered-in : (later : List Came) (y : Came) (rest : List Came) → AreNumberedByPlace (later ++ y ∷ rest) →
    number_in y ≡ after_steps (length rest) 0
numbered-in [] y rest h = h.0
numbered-in (x ∷ later) y rest h = numbered-in later y rest h.1

came-before : (time : ℕ) (later : List Came) (y : Came) (rest : List Came) → ComeUpTo time (later ++ y ∷ rest) →
    y.time ≤ time
came-before time [] y rest h = h.0
came-before time (x ∷ later) y rest h = let le = came-before x.time later y rest h.1 in omega (arith, le, h.0)

pair-of : (s : Source) (x y : Came) (b c : Bool) → is_copy x y ≡ b → nat_le x.time (y.time + apart s x + slip s) ≡ c →
    (if b then (if c then [] else Apart x.line (x.time - y.time - apart s x) ∷ []) else Differs x.line ∷ []) ≡ [] →
    y.time ≤ x.time → ArePair s y x
unfolding is_copy
pair-of s x y true true e f h le = record {
  same = sym ((bytes_eq-Decides (common x.bytes) (common y.bytes)).0 e);
  x_soon = omega (arith, le);
  y_soon = leb-true _ _ f;
}
pair-of s x y true false e f h le = absurd (cc h)
pair-of s x y false c e f h le = absurd (cc h)

module _ (s : Source) (start : s.by.start ≡ None) (x : Came) (past : List Came) (al : AreAligned s past)
    (quiet : IsQuietAfter s past x) (all : AreQuiet s past) (up : ComeUpTo x.time past)
    (held : Held s x.time past) where
  oldest-pairs : is_side al.further x.side ≡ false → (w : Waiting) (rest : List Waiting) →
      waiting s al.further past ≡ w ∷ rest → AreAligned s (x ∷ past)
  unfolding may_pair Held AllHeld
  oldest-pairs e w rest is =
      let side : x.side ≡ other al.further = is-other al.further x.side e in
      let later : List Came = reverse (map frame_in rest) in
      let last : al.ahead ≡ later ++ w.frame ∷ [] =
      sym (reverse-reverse al.ahead) ∙ ap reverse (sym al.waits ∙ ap (map frame_in) is)
      ∙ reverse-first w.frame (map frame_in rest) in
      let those : on_side al.further past ≡ later ++ (w.frame ∷ al.paired) =
      al.splits ∙ ap (λ (l : List Came). l ++ al.paired) last ∙ append_assoc later (w.frame ∷ []) al.paired in
      let its : number_in w.frame ≡ after_steps (length al.paired) 0 =
      numbered-in later w.frame al.paired
      (subst (λ (l : List Came). AreNumberedByPlace l) those (numbered s start al.further past all)) in
      let own : number_in x ≡ after_steps (length (on_side x.side past)) 0 =
      numbered-with s x (number_after s (on_side x.side past)) (after_steps (length (on_side x.side past)) 0)
      (next-number s start (on_side x.side past) (numbered s start x.side past all)) quiet.number in
      let places : length al.paired ≡ length (on_side x.side past) =
      as-long s al.paired (on_side (other al.further) past) al.pairs
      ∙ ap (λ (t : Side). length (on_side t past)) (sym side) in
      let same : number_in w.frame ≡ number_in x = its ∙ ap (λ n. after_steps n 0) places ∙ sym own in
      let near : x.time ≤ w.frame.time + hold s =
      (subst (λ (l : List Waiting). AllHeld s x.time l) is (held al.further)).0 in
      let may : may_pair s x w ≡ true =
      and_from (nat_eq (number_in w.frame) (number_in x)) (nat_le x.time (w.frame.time + hold s))
      (eq-eqb (number_in w.frame) (number_in x) same) (le-leb x.time (w.frame.time + hold s) near) in
      let before : w.frame.time ≤ x.time =
      came-before x.time later w.frame al.paired
      (subst (λ (l : List Came). ComeUpTo x.time l) those (come_on s al.further x.time past up)) in
      let from : waiting s (other x.side) past ≡ w ∷ rest =
      ap (λ (t : Side). waiting s (other t) past) side ∙ ap (λ (t : Side). waiting s t past) (other-other al.further)
      ∙ is in
      let found : found_with s x (Some w) ≡ [] =
      sym (ap (λ (ys : List Waiting). found_with s x (partner s x ys)) from
      ∙ ap (found_with s x) (cond-true (may_pair s x w) (Some w) (partner s x rest) may)) ∙ quiet.with in
      pairs-up s x past al e w rest is may
      (pair-of s x w.frame (is_copy x w.frame) (nat_le x.time (w.frame.time + apart s x + slip s)) refl refl found
      before)

  aligned-next : AreAligned s (x ∷ past)
  aligned-next = by (is_side al.further x.side) refl
    where
      waits : is_side al.further x.side ≡ false → (ys : List Waiting) → waiting s al.further past ≡ ys →
          AreAligned s (x ∷ past)
      waits e [] is = turns s x past al e is
      waits e (w ∷ rest) is = oldest-pairs e w rest is

      by : (b : Bool) → is_side al.further x.side ≡ b → AreAligned s (x ∷ past)
      by true e = goes-ahead s x past al e
      by false e = waits e (waiting s al.further past) refl

aligned : (s : Source) → s.by.start ≡ None → (xs : List Came) (time : ℕ) → AreQuiet s xs → ComeUpTo time xs →
    Held s time xs → AreAligned s xs
unfolding AreQuiet waiting
aligned s start [] time quiet up held =
    record { further = A; ahead = []; paired = []; splits = refl; pairs = tt; waits = refl; none = refl }
aligned s start (x ∷ past) time quiet up held =
    let before = held-before s time x past up.0 held in
    aligned-next s start x past (aligned s start past x.time quiet.1 up.1 before) quiet.0 quiet.1 up.1 before

-- ---- at the end

no-more : {X : Type 0} (test : X → Bool) (ys : List X) → filter (λ y. not (test y)) ys ≡ [] →
    AllByRecursion (λ y. test y ≡ true) ys
no-more test [] h = tt
no-more test (y ∷ ys) h = by (test y) refl h (λ k. no-more test ys k)
  where
    by : (b : Bool) → test y ≡ b →
        (if not b then y ∷ filter (λ z. not (test z)) ys else filter (λ z. not (test z)) ys) ≡ [] →
        (filter (λ z. not (test z)) ys ≡ [] → AllByRecursion (λ z. test z ≡ true) ys) →
        AllByRecursion (λ z. test z ≡ true) (y ∷ ys)
    by true e k more = (e, more k)
    by false e k more = absurd (cc k)

none-passes : {X : Type 0} (test : X → Bool) (ys : List X) → AllByRecursion (λ y. test y ≡ true) ys →
    filter test ys ≡ [] → ys ≡ []
none-passes test [] h k = refl
none-passes test (y ∷ ys) h k =
    absurd (let e = sym (cond-true (test y) (y ∷ filter test ys) (filter test ys) h.0) ∙ k in cc e)

first-of-both : (a b c : Bool) → (a && b || false && c) ≡ true → a ≡ true
first-of-both true b c h = refl
first-of-both false b c h = absurd (cc h)

div-less : (m n k : ℕ) → m ≤ n → m / k ≤ n / k
div-less m n zero le = omega (arith, div-zero m)
div-less m n (suc k) le =
    let part = div-mul-le_self m (suc k) in le-div (m / suc k) n (suc k) (omega arith) (omega (arith, part, le))

module _ (s : Source) (awaited : AreAwaited s) where
  within-hold : (x : Came) → apart s x + slip s ≤ hold s
  within-hold x =
      let most = mul-le-mul_left parts (awaited (length x.bytes)) in
      let whole = div-less (parts * apart_by s s.given (length x.bytes)) (parts * 100000000) (slow s) most in
      omega (arith, whole)

  -- a copy that is cut off may be sent behind the end
  cut-late : s.by.start ≡ None → (xs : List Came) (y : Waiting) → is_cut_of s xs y ≡ true →
      s.until < y.frame.time + apart s y.frame + slip s
  unfolding is_cut
  cut-late start xs y h =
      let others = on_side (other y.frame.side) (whole_of xs) in
      let x = y.frame in
      let a = nat_lt s.until (x.time + apart s x + slip s) in
      let at_first : (a && not (went_on s x others) || false && not (had_begun s x others)) ≡ true =
      subst (λ (o : Option ℕ). (a && not (went_on s x others) || is_before s o x && not (had_begun s x others)) ≡ true)
      start h in
      ltb-true s.until (x.time + apart s x + slip s)
      (first-of-both a (not (went_on s x others)) (not (had_begun s x others)) at_first)

  cut-held : s.by.start ≡ None → (xs : List Came) (y : Waiting) → is_cut_of s xs y ≡ true →
      s.until ≤ y.frame.time + hold s
  cut-held start xs y h =
      let less = cut-late start xs y h in
      let most = within-hold y.frame in
      omega (arith, less, most)

  all-cut-late : s.by.start ≡ None → (xs : List Came) (ys : List Waiting) →
      AllByRecursion (λ y. is_cut_of s xs y ≡ true) ys →
      AllByRecursion (λ x. s.until < x.time + apart s x + slip s) (map frame_in ys)
  all-cut-late start xs [] h = tt
  all-cut-late start xs (y ∷ ys) h = (cut-late start xs y h.0, all-cut-late start xs ys h.1)

  all-cut-held : s.by.start ≡ None → (xs : List Came) (ys : List Waiting) →
      AllByRecursion (λ y. is_cut_of s xs y ≡ true) ys → AllHeld s s.until ys
  unfolding AllHeld
  all-cut-held start xs [] h = tt
  all-cut-held start xs (y ∷ ys) h = (cut-held start xs y h.0, all-cut-held start xs ys h.1)

module _ (s : Source) (xs : List Came) (awaited : AreAwaited s) (quiet : IsQuietSource s xs) where
  clean : AreClean s xs
  clean = all_clean s xs quiet.coming

  is-quiet : AreQuiet s xs
  is-quiet = all-quiet s quiet.paired xs clean quiet.coming

  waits-of : (side : Side) → waiting_of s side xs ≡ waiting s side xs
  waits-of side = cond-true s.is_paired (waiting s side (whole_of xs)) [] quiet.paired
      ∙ ap (waiting s side) (whole_same s xs clean)

  are-cut : (side : Side) → AllByRecursion (λ y. is_cut_of s xs y ≡ true) (waiting s side xs)
  are-cut side = subst (λ (ys : List Waiting). AllByRecursion (λ y. is_cut_of s xs y ≡ true) ys) (waits-of side)
      (no-more (is_cut_of s xs) (waiting_of s side xs)
      (none-reversed (singles s side xs) (none-mapped (single_at s) _ (quiet.single side))))

  held-to-end : Held s s.until xs
  unfolding Held
  held-to-end side = all-cut-held s awaited quiet.start xs (waiting s side xs) (are-cut side)

  all-aligned : AreAligned s xs
  all-aligned = aligned s quiet.start xs s.until is-quiet quiet.by_time held-to-end

  none-waits : NoneIsCut s xs → (side : Side) → waiting s side xs ≡ []
  none-waits uncut side = none-passes (is_cut_of s xs) (waiting s side xs) (are-cut side)
      (ap (filter (is_cut_of s xs)) (sym (waits-of side)) ∙ uncut side)

all-front : {X : Type 0} (P : X → Type 0) (xs ys : List X) → AllByRecursion P (xs ++ ys) → AllByRecursion P xs
all-front P [] ys h = tt
all-front P (x ∷ xs) ys h = (h.0, all-front P xs ys h.1)

all-behind : {X : Type 0} (P : X → Type 0) (xs ys : List X) → AllByRecursion P (xs ++ ys) → AllByRecursion P ys
all-behind P [] ys h = h
all-behind P (x ∷ xs) ys h = all-behind P xs ys h.1

all-back : {X : Type 0} (P : X → Type 0) (xs : List X) → AllByRecursion P (reverse xs) → AllByRecursion P xs
all-back P [] h = tt
all-back {X} P (x ∷ xs) h =
    let those : AllByRecursion P (reverse xs ++ x ∷ []) =
    subst (λ (l : List X). AllByRecursion P l) (reverse-first x xs) h in
    ((all-behind P (reverse xs) (x ∷ []) those).0, all-back P xs (all-front P (reverse xs) (x ∷ []) those))

-- of the frames that are ahead the copies may be sent behind the end
pub record AreLate (s : Source) (xs : List Came) : Type 0 where
  pub pairs : AreInPairs s xs
  pub late : AllByRecursion (λ x. s.until < x.time + apart s x + slip s) pairs.ahead

pub quiet_late : (s : Source) (xs : List Came) → AreAwaited s → IsQuietSource s xs → AreLate s xs
quiet_late s xs awaited quiet =
    let al = all-aligned s xs awaited quiet in
    record {
      pairs = record {
        further = al.further;
        ahead = al.ahead;
        paired = al.paired;
        splits = al.splits;
        pairs = al.pairs;
      };
      late = all-back (λ x. s.until < x.time + apart s x + slip s) al.ahead
          (subst (λ (l : List Came). AllByRecursion (λ x. s.until < x.time + apart s x + slip s) l) al.waits
          (all-cut-late s awaited quiet.start xs (waiting s al.further xs) (are-cut s xs awaited quiet al.further)));
    }

pub quiet_in_pairs : QuietIsInPairs
quiet_in_pairs s xs awaited quiet =
    let al = all-aligned s xs awaited quiet in
    record { further = al.further; ahead = al.ahead; paired = al.paired; splits = al.splits; pairs = al.pairs }

pub quiet_numbered : QuietIsNumbered
quiet_numbered s xs side quiet =
    numbered s quiet.start side xs (all-quiet s quiet.paired xs (all_clean s xs quiet.coming) quiet.coming)

pub uncut_in_pairs : UncutIsInPairs
uncut_in_pairs s xs awaited quiet uncut =
    let al = all-aligned s xs awaited quiet in
    let none : al.ahead ≡ [] =
    none-reversed al.ahead (sym al.waits ∙ ap (map frame_in) (none-waits s xs awaited quiet uncut al.further)) in
    let those : al.paired ≡ on_side al.further xs =
    sym (al.splits ∙ ap (λ (l : List Came). l ++ al.paired) none) in
    by al.further (subst (λ (l : List Came). ArePairsByPlace s l (on_side (other al.further) xs)) those al.pairs)
  where
    by : (side : Side) → ArePairsByPlace s (on_side side xs) (on_side (other side) xs) →
        ArePairsByPlace s (on_side A xs) (on_side B xs)
    by A h = h
    by B h = all-turned s (on_side B xs) (on_side A xs) h
