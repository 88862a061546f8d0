-- What a stream stands for, whatever the end will be.
use Rattle.std.proofs.Common.{◌≡◌, ℕ, ◌-◌, ◌≤◌, List, [], ◌∷◌, ◌++◌, length, refl, ap, ◌∙◌, arith}
use Rattle.std.specs.Prelude.{OnOk, OnErr, Result, Ok, Err}
use Rattle.afdx_police.specs.Arrival.{Arrival}
use Rattle.afdx_conform.specs.Ahead.{NoneIsOpen, until_then}
use Rattle.afdx_conform.specs.Events.{event_time}
use Rattle.afdx_conform.specs.Findings.{Judged}
use Rattle.afdx_conform.specs.Growing.{IsAfter, IsSame, MayCome, MayLeave}
use Rattle.afdx_conform.specs.Histories.{AreOver, coming, judged_by, next_of, over_at, shown, uncut}
use Rattle.afdx_conform.specs.Holding.{IsLean}
use Rattle.afdx_conform.specs.Marks.{IsJudged, arrival_of}
use Rattle.afdx_conform.specs.Standing.{IsEnding, StandsFor}
use Rattle.afdx_conform.specs.States.{Event, Came, Closing}
use Rattle.afdx_conform.specs.Streams.{Gone, Terms}
use Rattle.afdx_conform.specs.declared.arrived.Arrived.{Arrived}
use Rattle.afdx_conform.specs.declared.streaming.Stream.{Stream}
use Rattle.afdx_conform.proofs.GrowthFrames.{shown-late}
use Rattle.afdx_conform.proofs.GrowthLemmas.{judged-came}
use Rattle.afdx_conform.proofs.GrowthStarts.{after-same}
use Rattle.afdx_conform.proofs.LaterEnd.{end_later}
use Rattle.afdx_conform.proofs.LeanLemmas.{lean-same}
use Rattle.afdx_conform.proofs.OverLemmas.{not-open}

-- ---- whatever the end is

module _ (z : Terms) (until : ℕ) where
  pub time-until : (e : Event) → event_time (until_then until z) e ≡ event_time z e
  time-until (Came x) = refl
  time-until (Closing time) = refl

  pub at-until : (e : Event) (before : List Event) → over_at (until_then until z) e before ≡ over_at z e before
  at-until (Came x) before = refl
  at-until (Closing time) [] = refl
  at-until (Closing time) (e ∷ before) = refl

  pub next-until : (cs : List Arrival) (us : List Gone) → next_of (until_then until z) cs us ≡ next_of z cs us
  next-until [] [] = refl
  next-until [] (u ∷ us) = refl
  next-until (c ∷ cs) [] = refl
  next-until (c ∷ cs) (u ∷ us) = refl

  pub over-until : (time : ℕ) (over : List Event) → AreOver z time over → AreOver (until_then until z) time over
  unfolding AreOver
  over-until time [] o = tt
  over-until time (e ∷ before) o =
      (let lt = o.0 in let same = at-until e before in omega (arith, lt, same), over-until time before o.1)

  pub none-open : (time : ℕ) (over : List Event) → time ≤ until → AreOver z time over
      → NoneIsOpen (until_then until z) over
  unfolding AreOver NoneIsOpen
  none-open time [] le o = tt
  none-open time (Came x ∷ before) le o = (not-open (until_then until z) x time o.0 le, none-open time before le o.1)
  none-open time (Closing t ∷ before) le o = none-open time before le o.1

pub judged-until : (z : Terms) (xs : List Arrival) (ys : List Gone) (time a b : ℕ) (over : List Event) → time ≤ a
    → time ≤ b
    → AreOver z time over → judged_by (until_then a z) xs ys over ≡ judged_by (until_then b z) xs ys over
judged-until z xs ys time a b over le more o =
    end_later (until_then b z) a ys (coming xs over) over (none-open z b time over more o)
    (none-open z a time over le o)

-- ---- results

pub on-every : {X E : Type 0} {P : ℕ → Type 0} {Q : Type 0} (r : Result X E) (time : ℕ)
    → (((until : ℕ) → time ≤ until → P until) → Q) → ((until : ℕ) → time ≤ until → OnOk r (P until)) → OnOk r Q
on-every (Ok x) time f h = f h
on-every (Err e) time f h = h time (omega arith)

pub on-err : {X E : Type 0} {P Q : Type 0} (r : Result X E) → (P → Q) → OnErr r P → OnErr r Q
on-err (Ok x) f h = h
on-err (Err e) f h = f h

-- ---- one more arrival, one more frame

pub judged-for : (z : Terms) (until : ℕ) (a : Arrived) → IsJudged z a → IsJudged (until_then until z) a
judged-for z until a j = record { fault = j.fault; charged = λ e. record { charge = (j.charged e).charge } }

pub come-for : (z : Terms) (until : ℕ) (xs : List Arrival) (time : ℕ) (x : Arrival) → MayCome z xs time x
    → MayCome (until_then until z) xs time x
come-for z until xs time x m = record { behind = m.behind; by_time = m.by_time; start = m.start; few = m.few }

pub leave-for : (z : Terms) (until : ℕ) (ys : List Gone) (time : ℕ) (y : Gone) → MayLeave z ys time y
    → MayLeave (until_then until z) ys time y
leave-for z until ys time y m = record { behind = m.behind; by_time = m.by_time; start = m.start; few = m.few }

module _ (z : Terms) (xs : List Arrival) (ys : List Gone) (j : Judged) (time : ℕ) (old new : Stream)
    (h : StandsFor z xs ys j time old)
  where
    pub stands-came : (a : Arrived) → IsJudged z a → MayCome z xs time (arrival_of a)
        → ((until : ℕ) → time ≤ until → IsAfter (until_then until z) (xs ++ (arrival_of a ∷ [])) ys 0 h.over new.growth
        × (IsLean old.growth → IsLean new.growth))
        → StandsFor z (xs ++ (arrival_of a ∷ [])) ys j time new
    stands-came a js m f = record {
      over = h.over;
      before = h.before;
      is_after = λ until le. (f until le).0;
      judged = λ until le.
          ap (λ (k : Judged). shown k) (judged-came (until_then until z) xs ys 0 time h.over a old.growth
          old.growth.arrivals 0 old.growth.known m.behind
          (over-until z until time h.over h.before) (h.is_after until le).events)
          ∙ h.judged until le;
      lean = (f time (omega arith)).1 h.lean;
    }

    pub stands-left : (y : Gone) → MayLeave z ys time y
        → ((until : ℕ) → time ≤ until → IsAfter (until_then until z) xs (ys ++ (y ∷ [])) 0 h.over new.growth
        × (IsLean old.growth → IsLean new.growth))
        → StandsFor z xs (ys ++ (y ∷ [])) j time new
    stands-left y m f = record {
      over = h.over;
      before = h.before;
      is_after = λ until le. (f until le).0;
      judged = λ until le.
          shown-late (until_then until z) xs ys (y ∷ []) time h.over (h.is_after until le).told
          (h.is_after until le).events le
          ((let b = m.behind in omega (arith, b)), tt) (over-until z until time h.over h.before)
          ∙ h.judged until le;
      lean = (f time (omega arith)).1 h.lean;
    }

    pub stands-same : IsSame old.growth new.growth → StandsFor z xs ys j time new
    stands-same s = record {
      over = h.over;
      before = h.before;
      is_after = λ until le. after-same (until_then until z) xs ys 0 h.over old.growth new.growth s
          (h.is_after until le);
      judged = h.judged;
      lean = lean-same old.growth new.growth s h.lean;
    }

    over-later : (other : ℕ) (over : List Event) → time ≤ other → AreOver z time over → AreOver z other over
    unfolding AreOver
    over-later other [] le o = tt
    over-later other (e ∷ before) le o = (let lt = o.0 in omega (arith, lt, le), over-later other before le o.1)

    pub stands-later : (other : ℕ) → time ≤ other → StandsFor z xs ys j other old
    stands-later other le = record {
      over = h.over;
      before = over-later other h.over le h.before;
      is_after = λ until more. h.is_after until (omega (arith, le, more));
      judged = λ until more. h.judged until (omega (arith, le, more));
      lean = h.lean;
    }

pub ending-same : (z : Terms) (xs : List Arrival) (ys : List Gone) (j : Judged) (old new : Stream)
    → IsEnding z xs ys j old
    → IsSame old.growth new.growth → IsEnding z xs ys j new
ending-same z xs ys j old new h s = record {
  over = h.over;
  is_after = after-same z xs (uncut z ys) (length ys - length (uncut z ys)) h.over old.growth new.growth s h.is_after;
  judged = h.judged;
}
