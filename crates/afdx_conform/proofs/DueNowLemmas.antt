-- When the next event of a stream is due.
use Rattle.std.proofs.Common.{◌≡◌, ℕ, zero, suc, ◌+◌, ◌<◌, ◌≤◌, Bool, true, false, List, [], ◌∷◌, drop, get_or, length, refl, sym, ap, ◌∙◌, arith}
use Rattle.std.proofs.lemmas.Bool.{lt-ltb, le-ltb}
use Rattle.std.proofs.lemmas.List.{drop_all, drop_more, length-drop}
use Rattle.std.specs.Prelude.{if◌then◌else◌, Some, None}
use Rattle.afdx_conform.specs.Growing.{due_at, due_by, due_in}
use Rattle.afdx_conform.specs.declared.arrived.Arrived.{Arrived}
use Rattle.afdx_conform.specs.declared.growth.Growth.{Growth}
use Rattle.afdx_conform.specs.declared.limits.LeftFrame.{LeftFrame}
use Rattle.afdx_conform.specs.declared.limits.Limits.{Limits}
use Rattle.afdx_conform.proofs.HeldLemmas.{if-true, if-false}

head-is : {X : Type 0} (n : ℕ) (xs rest : List X) (x : X) → drop n xs ≡ x ∷ rest → x ≡ get_or xs n x
head-is zero [] rest x e = absurd (cc)
head-is (suc n) [] rest x e = absurd (cc)
head-is zero (y ∷ xs) rest x e = by e
  where
    by : y ∷ xs ≡ x ∷ rest → x ≡ y
    by k = cc
head-is (suc n) (y ∷ xs) rest x e = head-is n xs rest x e

in-arrival : (limits : Limits) (a : Arrived) (rest : List Arrived) (fs : List LeftFrame)
    → ((f : LeftFrame) (more : List LeftFrame) → fs ≡ f ∷ more → a.time ≤ f.time + limits.reach)
    → Some (due_at limits a.time) ≡ due_in limits (a ∷ rest) fs
in-arrival limits a rest [] h = refl
in-arrival limits a rest (f ∷ fs) h =
    sym (ap (λ (b : Bool). if b then Some (due_at limits (f.time + limits.reach)) else Some (due_at limits a.time))
    (le-ltb (f.time + limits.reach) a.time (h f fs refl)))

in-closing : (limits : Limits) (f : LeftFrame) (rest : List LeftFrame) (come : List Arrived)
    → ((a : Arrived) (more : List Arrived) → come ≡ a ∷ more → f.time + limits.reach < a.time)
    → Some (due_at limits (f.time + limits.reach)) ≡ due_in limits come (f ∷ rest)
in-closing limits f rest [] h = refl
in-closing limits f rest (a ∷ come) h =
    sym (ap (λ (b : Bool). if b then Some (due_at limits (f.time + limits.reach)) else Some (due_at limits a.time))
    (lt-ltb (f.time + limits.reach) a.time (h a come refl)))

less-than : {X : Type 0} (n : ℕ) (xs rest : List X) (x : X) → drop n xs ≡ x ∷ rest → n < length xs
less-than n xs rest x e =
    let size = length-drop n xs in
    let some = ap (λ l. length l) e in
    omega (arith, size, some)

module _ (g : Growth) where
  abbrev Place : ℕ
  Place = length g.judging.marks.items

  sure-is : g.judging.is_unsure ≡ false
      → due_by g ≡ due_in g.bounds.limits (drop Place g.arrivals.items) (drop g.closed g.frames.items)
  unfolding due_by
  sure-is sure = if-false g.judging.is_unsure None
      (due_in g.bounds.limits (drop Place g.arrivals.items) (drop g.closed g.frames.items)) sure

  pub due-unsure : g.judging.is_unsure ≡ true → None ≡ due_by g
  unfolding due_by
  due-unsure un = sym (if-true g.judging.is_unsure None
      (due_in g.bounds.limits (drop Place g.arrivals.items) (drop g.closed g.frames.items)) un)

  pub due-over : g.judging.is_unsure ≡ false → length g.frames.items ≤ g.closed → length g.arrivals.items ≤ Place
      → None ≡ due_by g
  due-over sure frames arrivals =
      sym (sure-is sure
      ∙ ap (λ (l : List Arrived). due_in g.bounds.limits l (drop g.closed g.frames.items))
      (drop_all Place g.arrivals.items arrivals)
      ∙ ap (λ (l : List LeftFrame). due_in g.bounds.limits [] l) (drop_all g.closed g.frames.items frames))

  pub due-arrival : (a : Arrived) (moment : ℕ) → g.judging.is_unsure ≡ false → Place < length g.arrivals.items
      → a ≡ get_or g.arrivals.items Place a
      → ((f : LeftFrame) → g.closed < length g.frames.items → f ≡ get_or g.frames.items g.closed f
      → a.time ≤ f.time + g.bounds.limits.reach)
      → moment ≡ due_at g.bounds.limits a.time → Some moment ≡ due_by g
  due-arrival a moment sure lt at first is =
      ap (λ (n : ℕ). Some n) is
      ∙ in-arrival g.bounds.limits a (drop (Place + 1) g.arrivals.items) (drop g.closed g.frames.items)
      (λ f more e. first f (less-than g.closed g.frames.items more f e) (head-is g.closed g.frames.items more f e))
      ∙ ap (λ (v : Arrived). due_in g.bounds.limits (v ∷ drop (Place + 1) g.arrivals.items)
      (drop g.closed g.frames.items)) at
      ∙ ap (λ (l : List Arrived). due_in g.bounds.limits l (drop g.closed g.frames.items))
      (sym (drop_more g.arrivals.items Place a lt))
      ∙ sym (sure-is sure)

  pub due-closing : (f : LeftFrame) (moment : ℕ) → g.judging.is_unsure ≡ false → g.closed < length g.frames.items
      → f ≡ get_or g.frames.items g.closed f
      → ((a : Arrived) → Place < length g.arrivals.items → a ≡ get_or g.arrivals.items Place a
      → f.time + g.bounds.limits.reach < a.time)
      → moment ≡ due_at g.bounds.limits (f.time + g.bounds.limits.reach) → Some moment ≡ due_by g
  due-closing f moment sure lt at before is =
      ap (λ (n : ℕ). Some n) is
      ∙ in-closing g.bounds.limits f (drop (g.closed + 1) g.frames.items) (drop Place g.arrivals.items)
      (λ a more e. before a (less-than Place g.arrivals.items more a e) (head-is Place g.arrivals.items more a e))
      ∙ ap (λ (v : LeftFrame). due_in g.bounds.limits (drop Place g.arrivals.items)
      (v ∷ drop (g.closed + 1) g.frames.items)) at
      ∙ ap (λ (l : List LeftFrame). due_in g.bounds.limits (drop Place g.arrivals.items) l)
      (sym (drop_more g.frames.items g.closed f lt))
      ∙ sym (sure-is sure)
