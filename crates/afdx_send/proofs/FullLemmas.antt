-- The port of a sender is never full: each link releases one frame in a gap.
use Rattle.std.proofs.Common.{◌≡◌, ℕ, ◌+◌, ◌<◌, ◌≤◌, ◌==◌, Bool, true, false, if◌then◌else◌, List}
use Rattle.std.proofs.Common.{[], ◌∷◌, ◌++◌, length, Some, inl, inr, refl, sym, ap, subst, arith}
use Rattle.std.proofs.Common.{◌∙◌, suc, zero, map, slice_index_or}
use Rattle.std.specs.Prelude.{All, Contains, filter, reverse}
use Rattle.std.specs.List.{slice_get}
use Rattle.std.proofs.lemmas.List.{reverse-append, map_push}
use Rattle.std.proofs.lemmas.List.Elements.{filter-append, All-append}
use Rattle.std.proofs.lemmas.Bool.{cases_eq}
use Rattle.afdx_frame.specs.declared.link.Priority.TheVariants.{Low}
use Rattle.afdx_frame.specs.Flows.{Flow}
use Rattle.afdx_frame.specs.Regulation.{bag}
use Rattle.afdx_config.specs.Admission.{byte_ns}
use Rattle.afdx_config.specs.Flows.{regulation_of_link}
use Rattle.afdx_config.specs.Lawful.{AreDistinct}
use Rattle.afdx_config.specs.Rows.{LinkRow}
use Rattle.afdx_police.specs.Stream.{IsRegular}
use Rattle.afdx_police.specs.Window.{Charged}
use Rattle.afdx_law_bounds.specs.Policed.{charged_as, charged_to, IsCharged}
use Rattle.afdx_law_bounds.specs.Sender.{AreReleased, SenderIsNeverFull}
use Rattle.afdx_law_bounds.specs.Tables.{sent_flow}
use Rattle.afdx_law_bounds.proofs.ListLemmas.{all_get}
use Rattle.afdx_port.specs.Schedule.{Entry, Turn, IsSchedule, IsLost}
use Rattle.afdx_port.specs.ScheduleOf.{AreInOrder}
use Rattle.afdx_send.specs.Emissions.{LinkRelease, own, own_submissions, IsNextOfAll}
use Rattle.afdx_send.specs.Emissions.{AreAllReleases, entry_for, entries_of}
use Rattle.afdx_send.specs.Frames.{Frame, facts}
use Rattle.afdx_send.specs.Releases.{Submission, Release, earliest_after}
use Rattle.afdx_send.specs.Sender.{AreSent, flows_of}
use Rattle.afdx_config.specs.Rows.{SystemRow}
use Rattle.afdx_port.proofs.TurnLemmas.{eqb-same, eqb-other}
use Rattle.afdx_send.proofs.OwnLemmas.{own_mine, own_other}

-- the link of a frame, and what its entry is charged
abbrev pub vl_of : Frame → ℕ
vl_of f = f.vl

abbrev pub charge_of : Entry Frame → ℕ
charge_of e = e.bytes + 20

-- what was taken fits into the link's frames
abbrev pub AllFit : List LinkRow → List (List Submission) → Type 0
AllFit links taken = (i j : ℕ) (l : LinkRow) (s : Submission) → slice_get links i ≡ Some l
    → slice_get (own_submissions taken i) j ≡ Some s → length s.message.payload + 47 ≤ l.lmax

-- an element of a list, and of what each is mapped to
in_map : {Y Z : Type 0} (f : Y → Z) (xs : List Y) (i : ℕ) (x : Y) → slice_get xs i ≡ Some x → Contains (map f xs) (f x)
in_map f [] i x h = absurd (cc h)
in_map f (y ∷ ys) zero x h = let e : y ≡ x = cc h in (0, omega arith, ap f e)
in_map f (y ∷ ys) (suc i) x h = let r = in_map f ys i x h in (suc r.0, (let lt = r.1 in omega arith), r.2)

from_map : {Y Z : Type 0} (f : Y → Z) (xs : List Y) (z : Z) (k : ℕ) → k < length (map f xs)
    → slice_index_or (map f xs) k z ≡ z → (i : ℕ) × (x : Y) × (slice_get xs i ≡ Some x) × (f x ≡ z)
from_map f [] z k lt h = absurd (omega arith)
from_map f (y ∷ ys) z zero lt h = (0, y, refl, h)
from_map f (y ∷ ys) z (suc k) lt h = let r = from_map f ys z k (omega arith) h in (suc r.0, r.1, r.2, r.3)

all_one : {Y : Type 0} (P : Y → Type 0) (x : Y) → P x → All P (x ∷ [])
all_one {Y = Y} P x p = all_get P (x ∷ []) (λ i y g. by i y g)
  where
    by : (i : ℕ) (y : Y) → slice_get (x ∷ []) i ≡ Some y → P y
    by zero y g = let e : x ≡ y = cc g in subst P e p
    by (suc i) y g = absurd (cc g)

all_none : {Y : Type 0} (P : Y → Type 0) → All P []
all_none P = all_get P [] (λ i y g. absurd (cc g))

module _ (s : SystemRow) (links : List LinkRow) (taken : List (List Submission))
    (are : AreSent s links) (fit : AllFit links taken) where
  -- an entry is charged to its link
  charged_one : (x : LinkRelease) (earlier : List LinkRelease) (k : ℕ)
      → IsNextOfAll links taken earlier x → IsCharged vl_of charge_of (flows_of s links) (entry_for x k)
  charged_one x earlier k n =
      let lawful = are.lawful x.place x.row n.stands in
      let fits = fit x.place x.release.place x.row x.release.submission n.stands n.next.own.stands in
      let a = lawful.1.lmin.0 in
      let b = lawful.1.lmax.0 in
      record {
        flow = sent_flow (byte_ns s) Low links x.row;
        stands = in_map (sent_flow (byte_ns s) Low links) links x.place x.row n.stands;
        named = refl;
        class = refl;
        at_least = omega arith;
        at_most = omega arith;
      }

  pub charged_all : (xs : List LinkRelease) → AreAllReleases links taken xs
      → All (λ e. IsCharged vl_of charge_of (flows_of s links) e) (entries_of xs)
  charged_all [] h = all_none (λ e. IsCharged vl_of charge_of (flows_of s links) e)
  charged_all (x ∷ xs) h =
      let P : Entry Frame → Type 0 = λ e. IsCharged vl_of charge_of (flows_of s links) e in
      All-append P (entries_of xs) (entry_for x (length (own x.place xs)) ∷ []) (charged_all xs h.1)
      (all_one P (entry_for x (length (own x.place xs)))
      (charged_one x xs (length (own x.place xs)) h.0))

  charged_push : (vl : ℕ) (es : List (Entry Frame)) (e : Entry Frame) →
      charged_to vl_of charge_of vl (es ++ e ∷ [])
      ≡ (if e.item.vl == vl then charged_as charge_of e ∷ charged_to vl_of charge_of vl es else
      charged_to vl_of charge_of vl es)
  charged_push vl es e =
      let p : Entry Frame → Bool = λ d. d.item.vl == vl in
      ap (λ z. reverse (map (charged_as charge_of) z)) (filter-append p es (e ∷ [])) ∙ by (e.item.vl == vl) refl
    where
      by : (b : Bool) → (e.item.vl == vl) ≡ b →
          reverse (map (charged_as charge_of)
          (filter (λ d. d.item.vl == vl) es ++ filter (λ d. d.item.vl == vl) (e ∷ [])))
          ≡ (if e.item.vl == vl then charged_as charge_of e
          ∷ charged_to vl_of charge_of vl es else charged_to vl_of charge_of vl es)
      by true t = rw t (ap reverse
          (map_push (charged_as charge_of) (filter (λ d. d.item.vl == vl) es) e)
          ∙ reverse-append (map (charged_as charge_of) (filter (λ d. d.item.vl == vl) es))
          (charged_as charge_of e ∷ []))
      by false t = rw t (ap (λ z. reverse (map (charged_as charge_of) z))
          (append_none (filter (λ d. d.item.vl == vl) es)))
        where
          append_none : {Y : Type 0} (xs : List Y) → xs ++ [] ≡ xs
          append_none [] = refl
          append_none (y ∷ ys) = ap (λ z. y ∷ z) (append_none ys)

  same_row : (i j : ℕ) (a b : LinkRow) → slice_get links i ≡ Some a → slice_get links j ≡ Some b → a.vl ≡ b.vl → i ≡ j
  unfolding AreDistinct
  same_row i j a b h k e = are.distinct i j a b h k e

  same_get : (i : ℕ) (a b : LinkRow) → slice_get links i ≡ Some a → slice_get links i ≡ Some b → a ≡ b
  same_get i a b h k = let e : Some a ≡ Some b = sym h ∙ k in cc e

  -- the entries of a link keep its gap
  pub regular : (i : ℕ) (l : LinkRow) → slice_get links i ≡ Some l → (xs : List LinkRelease)
      → AreAllReleases links taken xs → (next : ℕ)
      → earliest_after (bag (regulation_of_link l)) (own i xs) ≤ next →
      IsRegular (sent_flow (byte_ns s) Low links l).link (charged_to vl_of charge_of l.vl (entries_of xs)) next
  unfolding charged_one
  regular i l row [] h next le = tt
  regular i l row (x ∷ xs) h next le = elim (cases_eq i x.place) [
    | inl e ↦ (let f : Flow = sent_flow (byte_ns s) Low links l in
        let same : x.row ≡ l = same_get x.place x.row l h.0.stands
        (subst (λ (z : ℕ). slice_get links z ≡ Some l) e row) in
        let mine : own i (x ∷ xs) ≡ x.release ∷ own i xs =
        subst (λ (z : ℕ). own z (x ∷ xs) ≡ x.release ∷ own z xs) (sym e) (own_mine x xs) in
        let over : x.release.time + bag (regulation_of_link l) ≤ next =
        subst (λ (z : List Release). earliest_after (bag (regulation_of_link l)) z ≤ next) mine le in
        let n = h.0.next.after in
        let n' : earliest_after (bag (regulation_of_link l)) (own i xs) ≤ x.release.time =
        subst (λ (z : LinkRow). earliest_after (bag (regulation_of_link z)) (own i xs) ≤ x.release.time) same
        (subst (λ (z : ℕ). earliest_after (bag (regulation_of_link x.row)) (own z xs) ≤ x.release.time) (sym e) n) in
        let d : Entry Frame = entry_for x (length (own x.place xs)) in
        let is : (d.item.vl == l.vl) ≡ true = eqb-same d.item.vl l.vl (ap (λ z. z.vl) same) in
        let push : charged_to vl_of charge_of l.vl (entries_of xs ++ d ∷ [])
        ≡ charged_as charge_of d ∷ charged_to vl_of charge_of l.vl (entries_of xs) =
        charged_push l.vl (entries_of xs) d
        ∙ ap (λ b. if b then charged_as charge_of d
        ∷ charged_to vl_of charge_of l.vl (entries_of xs) else charged_to vl_of charge_of l.vl
        (entries_of xs)) is in
        let one = charged_one x xs (length (own x.place xs)) h.0 in
        let most : d.bytes + 20 ≤ l.lmax + 20 = subst (λ (z : LinkRow). d.bytes + 20 ≤ z.lmax + 20) same one.at_most in
        subst (λ (z : List Charged). IsRegular f.link z next) (sym push)
        (x.release.time, over, (omega arith), (omega arith), most, regular i l row xs h.1 x.release.time n'))
    | inr ne ↦ (let f : Flow = sent_flow (byte_ns s) Low links l in
        let d : Entry Frame = entry_for x (length (own x.place xs)) in
        let is : (d.item.vl == l.vl) ≡ false =
        eqb-other d.item.vl l.vl (λ e. ne (same_row i x.place l x.row row h.0.stands (sym e))) in
        let push : charged_to vl_of charge_of l.vl (entries_of xs ++ d ∷ [])
        ≡ charged_to vl_of charge_of l.vl (entries_of xs) =
        charged_push l.vl (entries_of xs) d
        ∙ ap (λ b. if b then charged_as charge_of d
        ∷ charged_to vl_of charge_of l.vl (entries_of xs) else charged_to vl_of charge_of l.vl
        (entries_of xs)) is in
        let le' = subst (λ (z : List Release). earliest_after (bag (regulation_of_link l)) z ≤ next)
        (own_other i x xs ne) le in
        subst (λ (z : List Charged). IsRegular f.link z next) (sym push) (regular i l row xs h.1 next le'))
  ]

  pub released_all : (xs : List LinkRelease) → AreAllReleases links taken xs
      → AreReleased vl_of charge_of (flows_of s links) (entries_of xs)
  released_all xs h f k =
      let r = from_map (sent_flow (byte_ns s) Low links) links f k.0 k.1 k.2 in
      let l = r.1 in
      let next : ℕ = earliest_after (bag (regulation_of_link l)) (own r.0 xs) in
      subst (λ (g : Flow). (n : ℕ)
      × IsRegular g.link (charged_to vl_of charge_of g.vl (entries_of xs)) n) r.3
      (next, regular r.0 l r.2 xs h next (omega arith))

  -- the next release isn't lost
  pub not_lost : SenderIsNeverFull Frame
      → (x : LinkRelease) (xs : List LinkRelease) (turns : List (Turn Frame))
      → AreAllReleases links taken (x ∷ xs) → AreInOrder (entries_of (x ∷ xs)) →
      IsSchedule (byte_ns s) (entries_of xs) turns
      → IsLost 65536 (entries_of xs) turns x.release.time
      (facts (entry_for x (length (own x.place xs))).item).bytes → ⊥
  not_lost never x xs turns h order schedule lost =
      never (byte_ns s) Low (flows_of s links) vl_of charge_of (entries_of xs) turns
      (entry_for x (length (own x.place xs))) are.is_sender order (charged_all (x ∷ xs) h)
      (released_all (x ∷ xs) h) schedule lost
