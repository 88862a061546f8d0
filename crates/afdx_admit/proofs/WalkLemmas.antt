-- Walks one after the other, and what is told by one that takes no fault.
use Rattle.std.proofs.Common.{◌≡◌, ℕ, zero, suc, ◌+◌, ◌-◌, ◌<◌, List, [], ◌∷◌, ◌++◌, Result, Ok, Err, OnOk, IfErr}
use Rattle.std.proofs.Common.{sym, ap, subst, ◌∙◌, refl, append_assoc, arith, false, Some, None, slice_get}
use Rattle.std.proofs.lemmas.List.{append-nil}
use Rattle.afdx_frame.specs.Lines.{Line, line, false_lines, first_false, each_from}
use Rattle.afdx_frame.proofs.FalseLinesLemmas.{false_lines-append, false_lines-fails, false_lines-nil, added}
use Rattle.afdx_frame.proofs.FalseLinesLemmas.{first-of_all, empty-none}
use Rattle.afdx_admit.specs.Walk.{Walks}

module _ {F : Type 0} where
  both : (xs ys : List (Line F)) (behind : List F) →
      false_lines xs ++ (false_lines ys ++ behind) ≡ false_lines (xs ++ ys) ++ behind
  both xs ys behind = sym (append_assoc (false_lines xs) (false_lines ys) behind)
      ∙ ap (λ zs. zs ++ behind) (sym (false_lines-append xs ys))

  pub failing : (fault : F) (behind : List F) →
      false_lines (line false fault ∷ []) ++ behind ≡ fault ∷ behind
  failing fault behind =
      ap (λ zs. zs ++ behind)
      (false_lines-fails (line false fault) [] refl ∙ ap (λ zs. fault ∷ zs) false_lines-nil)

  apart : (f : ℕ → List (Line F)) (from n m : ℕ) →
      each_from f from (n + m) ≡ each_from f from n ++ each_from f (from + n) m
  unfolding each_from
  apart f from zero m =
      (let e : 0 + m ≡ m = omega arith in ap (each_from f from) e)
      ∙ ap (λ k. each_from f k m) (let e : from ≡ from + 0 = omega arith in e)
  apart f from (suc n) m =
      (let e : suc n + m ≡ suc (n + m) = omega arith in ap (each_from f from) e)
      ∙ ap (λ ls. f from ++ ls) (apart f (from + 1) n m)
      ∙ sym (append_assoc (f from) (each_from f (from + 1) n) (each_from f (from + 1 + n) m))
      ∙ ap (λ k. (f from ++ each_from f (from + 1) n) ++ each_from f k m)
      (let e : from + 1 + n ≡ from + suc n = omega arith in e)

module _ {F E : Type 0} (Stops : List F → E → Type 0) where
  abbrev pub Stopped : List F → List (Line F) → E → Type 0
  Stopped old lines stop = (behind : List F) → Stops (old ++ (false_lines lines ++ behind)) stop

  -- stopped behind some lines, and before some
  pub stopped_later : (old before : List F) (xs ys : List (Line F)) (stop : E) → before ≡ old ++ false_lines xs →
      Stopped before ys stop → Stopped old (xs ++ ys) stop
  stopped_later old before xs ys stop e h behind =
      subst (λ fs. Stops fs stop)
      (ap (λ zs. zs ++ (false_lines ys ++ behind)) e
      ∙ append_assoc old (false_lines xs) (false_lines ys ++ behind)
      ∙ ap (λ zs. old ++ zs) (both xs ys behind))
      (h behind)

  pub stopped_before : (old : List F) (xs ys : List (Line F)) (stop : E) → Stopped old xs stop
      → Stopped old (xs ++ ys) stop
  stopped_before old xs ys stop h behind =
      subst (λ fs. Stops fs stop) (ap (λ zs. old ++ zs) (both xs ys behind)) (h (false_lines ys ++ behind))

  pub stopped_at : (f : ℕ → List (Line F)) (from count place end : ℕ) (old before : List F) (stop : E) →
      place ≡ from + count → count < end → before ≡ old ++ false_lines (each_from f from count) →
      Stopped before (f place) stop → Stopped old (each_from f from end) stop
  unfolding each_from
  stopped_at f from count place end old before stop at within e h =
      let more = end - (count + 1) in
      let whole : count + suc more ≡ end = omega (arith, within) in
      subst (λ ls. Stopped old ls stop)
      (sym (apart f from count (suc more)) ∙ ap (each_from f from) whole)
      (stopped_later old before (each_from f from count) (each_from f (from + count) (suc more)) stop e
      (stopped_before before (f (from + count)) (each_from f (from + count + 1) more) stop
      (subst (λ k. Stopped before (f k) stop) at h)))

  -- a walk behind another
  pub walks_on : {A : Type 0} (old before after : List F) (xs ys : List (Line F)) (r : Result A E) →
      before ≡ old ++ false_lines xs → Walks Stops before after ys r → Walks Stops old after (xs ++ ys) r
  walks_on old before after xs ys (Ok _) e h = added old before after xs ys e h
  walks_on old before after xs ys (Err stop) e h = stopped_later old before xs ys stop e h

  -- a call that stopped ends the walk
  pub walks_stop : {A : Type 0} (old before after : List F) (xs ys zs : List (Line F)) (stop : E) (r : Result A E) →
      r ≡ Err stop → before ≡ old ++ false_lines xs → Stopped before ys stop →
      Walks Stops old after (xs ++ (ys ++ zs)) r
  walks_stop old before after xs ys zs stop r is e h =
      subst (λ a. Walks Stops old after (xs ++ (ys ++ zs)) a) (sym is)
      (stopped_later old before xs (ys ++ zs) stop e (stopped_before before ys zs stop h))

  -- also one that has no further lines
  pub walks_end : {A : Type 0} (old after : List F) (ls : List (Line F)) (stop : E) (r : Result A E) → r ≡ Err stop
      → Stopped old ls stop → Walks Stops old after ls r
  walks_end old after ls stop r is h = subst (λ a. Walks Stops old after ls a) (sym is) h

  -- of lines only those that are false count
  pub walks_same : {A : Type 0} (old after : List F) (xs ys : List (Line F)) (r : Result A E)
      → false_lines xs ≡ false_lines ys → Walks Stops old after xs r → Walks Stops old after ys r
  walks_same old after xs ys (Ok _) e h = h ∙ ap (λ fs. old ++ fs) e
  walks_same old after xs ys (Err stop) e h =
      λ behind. subst (λ fs. Stops (old ++ (fs ++ behind)) stop) e (h behind)

  pub walks_stop_at : {A : Type 0} (f : ℕ → List (Line F)) (from count place end : ℕ) (old before after : List F)
      (stop : E) (r : Result A E) → r ≡ Err stop →
      place ≡ from + count → count < end → before ≡ old ++ false_lines (each_from f from count) →
      Stopped before (f place) stop → Walks Stops old after (each_from f from end) r
  walks_stop_at f from count place end old before after stop r is at within e h =
      subst (λ a. Walks Stops old after (each_from f from end) a) (sym is)
      (stopped_at f from count place end old before stop at within e h)

  -- a fault among others ends it
  pub stopped_among : (old found : List F) (fault : F) (rest all : List F) (stop : E) →
      (found ++ fault ∷ []) ++ rest ≡ old ++ all → ((more : List F) → Stops (found ++ (fault ∷ more)) stop) →
      (behind : List F) → Stops (old ++ (all ++ behind)) stop
  stopped_among old found fault rest all stop e h behind =
      subst (λ fs. Stops fs stop)
      (sym (append_assoc found (fault ∷ []) (rest ++ behind))
      ∙ sym (append_assoc (found ++ fault ∷ []) rest behind)
      ∙ ap (λ zs. zs ++ behind) e
      ∙ append_assoc old all behind)
      (h (rest ++ behind))

  -- one line, which is false
  pub walks_failing : {A : Type 0} (old after : List F) (fault : F) (r : Result A E) →
      OnOk r (after ≡ old ++ fault ∷ []) → IfErr r (λ stop. (behind : List F) → Stops (old ++ (fault ∷ behind)) stop) →
      Walks Stops old after (line false fault ∷ []) r
  walks_failing old after fault (Ok _) h g =
      h ∙ ap (λ zs. old ++ zs) (sym (sym (append-nil _) ∙ failing fault []))
  walks_failing old after fault (Err stop) h g =
      λ behind. subst (λ fs. Stops (old ++ fs) stop) (sym (failing fault behind)) (g behind)

-- ---- a walk that takes no fault: its lines hold, or it stopped with the first that is false

head-stays : {F : Type 0} (xs behind : List F) (x : F) → slice_get xs 0 ≡ Some x
    → slice_get (xs ++ behind) 0 ≡ Some x
head-stays [] behind x h = absurd (cc h)
head-stays (y ∷ ys) behind x h = h

module _ {F : Type 0} (ls : List (Line F)) where
  pub first-none : [] ≡ false_lines ls → None ≡ first_false ls
  first-none e = ap (λ fs. slice_get fs 0) e ∙ sym (first-of_all ls)

  pub first-stop : (fault : F) → ((behind : List F) → slice_get (false_lines ls ++ behind) 0 ≡ Some fault)
      → first_false ls ≡ Some fault
  first-stop fault h =
      first-of_all ls ∙ ap (λ fs. slice_get fs 0) (sym (append-nil (false_lines ls))) ∙ h []

  pub none-first : first_false ls ≡ None → [] ≡ false_lines ls
  none-first e = sym (empty-none (false_lines ls) (sym (first-of_all ls) ∙ e))

  pub stop-first : (fault : F) → first_false ls ≡ Some fault
      → (behind : List F) → slice_get (false_lines ls ++ behind) 0 ≡ Some fault
  stop-first fault e behind = head-stays (false_lines ls) behind fault (sym (first-of_all ls) ∙ e)
