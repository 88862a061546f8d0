-- The moment of the next event of a stream.
use Rattle.std.proofs.Common.{◌≡◌, ℕ, ◌+◌, ◌≤◌, inl, inr, Bool, true, false, List, [], ◌∷◌, ◌++◌, drop, length, refl, sym, ap, ◌∙◌, subst, arith}
use Rattle.std.proofs.lemmas.List.{drop-append-le}
use Rattle.std.specs.Prelude.{if◌then◌else◌, Option, Some, None, nat_lt}
use Rattle.std.specs.Global.{Vec}
use Rattle.afdx_conform.specs.Growing.{IsSame, IsSameOrLater, due_at, due_by, due_in}
use Rattle.afdx_conform.specs.declared.arrived.Arrived.{Arrived}
use Rattle.afdx_conform.specs.declared.growth.Growth.{Growth}
use Rattle.afdx_conform.specs.declared.known_bytes.KnownBytes.{KnownBytes}
use Rattle.afdx_conform.specs.declared.limits.LeftFrame.{LeftFrame}
use Rattle.afdx_conform.specs.declared.limits.Limits.{Limits}

-- ---- one more arrival, one more frame

in-came : (limits : Limits) (cs : List Arrived) (fs : List LeftFrame) (a : Arrived)
    → IsSameOrLater (due_in limits cs fs) a.time (due_in limits (cs ++ (a ∷ [])) fs)
in-came limits [] [] a = inr (omega arith)
in-came limits [] (f ∷ fs) a = by (nat_lt (f.time + limits.reach) a.time)
  where
    by : (b : Bool) → IsSameOrLater (Some (due_at limits (f.time + limits.reach))) a.time
        (if b then Some (due_at limits (f.time + limits.reach)) else Some (due_at limits a.time))
    by true = inl refl
    by false = inr (omega arith)
in-came limits (c ∷ cs) [] a = inl refl
in-came limits (c ∷ cs) (f ∷ fs) a = inl refl

in-left : (limits : Limits) (cs : List Arrived) (fs : List LeftFrame) (g : LeftFrame)
    → IsSameOrLater (due_in limits cs fs) g.time (due_in limits cs (fs ++ (g ∷ [])))
in-left limits [] [] g = inr (omega arith)
in-left limits (c ∷ cs) [] g = by (nat_lt (g.time + limits.reach) c.time)
  where
    by : (b : Bool) → IsSameOrLater (Some (due_at limits c.time)) g.time
        (if b then Some (due_at limits (g.time + limits.reach)) else Some (due_at limits c.time))
    by true = inr (omega arith)
    by false = inl refl
in-left limits [] (f ∷ fs) g = inl refl
in-left limits (c ∷ cs) (f ∷ fs) g = inl refl

by-unsure : (u : Bool) (time : ℕ) (before after : Option ℕ) → IsSameOrLater before time after
    → IsSameOrLater (if u then None else before) time (if u then None else after)
by-unsure true time before after h = inl refl
by-unsure false time before after h = h

pub due-came : (old : Growth) (a : Arrived) (arrivals' : Vec Arrived) (count : ℕ) (known' : KnownBytes)
    → arrivals'.items ≡ old.arrivals.items ++ (a ∷ []) → length old.judging.marks.items ≤ length old.arrivals.items
    → IsSameOrLater (due_by old) a.time (due_by (record old { arrivals = arrivals'; came = count; known = known' }))
unfolding due_by
due-came old a arrivals' count known' items le =
    let fs = drop old.closed old.frames.items in
    let cs = drop (length old.judging.marks.items) old.arrivals.items in
    subst (λ (l : List Arrived). IsSameOrLater (if old.judging.is_unsure then None else due_in old.bounds.limits
    (drop (length old.judging.marks.items) old.arrivals.items) (drop old.closed old.frames.items)) a.time
    (if old.judging.is_unsure then None else due_in old.bounds.limits l (drop old.closed old.frames.items)))
    (sym (ap (λ (l : List Arrived). drop (length old.judging.marks.items) l) items
    ∙ drop-append-le (length old.judging.marks.items) old.arrivals.items (a ∷ []) le))
    (by-unsure old.judging.is_unsure a.time _ _ (in-came old.bounds.limits cs fs a))

pub due-left : (old : Growth) (f : LeftFrame) (frames' : Vec LeftFrame) (count : ℕ)
    → frames'.items ≡ old.frames.items ++ (f ∷ []) → old.closed ≤ length old.frames.items
    → IsSameOrLater (due_by old) f.time (due_by (record old { frames = frames'; left = count }))
unfolding due_by
due-left old f frames' count items le =
    let fs = drop old.closed old.frames.items in
    let cs = drop (length old.judging.marks.items) old.arrivals.items in
    subst (λ (l : List LeftFrame). IsSameOrLater (if old.judging.is_unsure then None else due_in old.bounds.limits
    (drop (length old.judging.marks.items) old.arrivals.items) (drop old.closed old.frames.items)) f.time
    (if old.judging.is_unsure then None else due_in old.bounds.limits
    (drop (length old.judging.marks.items) old.arrivals.items) l))
    (sym (ap (λ (l : List LeftFrame). drop old.closed l) items ∙
    drop-append-le old.closed old.frames.items (f ∷ []) le))
    (by-unsure old.judging.is_unsure f.time _ _ (in-left old.bounds.limits cs fs f))

-- nothing is judged any more
pub due-many : (old new : Growth) (time : ℕ) → new.judging.is_unsure ≡ true
    → IsSameOrLater (due_by old) time (due_by new)
unfolding due_by
due-many old new time e =
    subst (λ (b : Bool). IsSameOrLater (due_by old) time (if b then None else due_in new.bounds.limits
    (drop (length new.judging.marks.items) new.arrivals.items) (drop new.closed new.frames.items))) (sym e) (inr tt)

-- ---- nothing has changed

pub due-same : (old new : Growth) → IsSame old new → due_by new ≡ due_by old
unfolding due_by
due-same old new s =
    ap (λ (b : Bool). if b then None else due_in new.bounds.limits
    (drop (length new.judging.marks.items) new.arrivals.items) (drop new.closed new.frames.items)) s.is_unsure
    ∙ ap (λ (l : Limits). if old.judging.is_unsure then None else due_in l
    (drop (length new.judging.marks.items) new.arrivals.items) (drop new.closed new.frames.items))
    (ap (λ b. b.limits) s.bounds)
    ∙ ap (λ (l : List Arrived). if old.judging.is_unsure then None else due_in old.bounds.limits
    (drop (length new.judging.marks.items) l) (drop new.closed new.frames.items)) s.arrivals
    ∙ ap (λ (n : ℕ). if old.judging.is_unsure then None else due_in old.bounds.limits
    (drop n old.arrivals.items) (drop new.closed new.frames.items)) (ap (λ l. length l) s.marks)
    ∙ ap (λ (l : List LeftFrame). if old.judging.is_unsure then None else due_in old.bounds.limits
    (drop (length old.judging.marks.items) old.arrivals.items) (drop new.closed l)) s.frames
    ∙ ap (λ (n : ℕ). if old.judging.is_unsure then None else due_in old.bounds.limits
    (drop (length old.judging.marks.items) old.arrivals.items) (drop n old.frames.items)) s.closed
