-- What is recorded of a right switch up to an end.
use Rattle.std.proofs.Common.{◌≡◌, ◌+◌, Bool, true, false, List, [], ◌∷◌, ◌++◌, reverse, refl, sym, ap, ◌∙◌, subst}
use Rattle.std.proofs.lemmas.List.{append_assoc, append-nil, reverse-append, reverse-reverse}
use Rattle.std.proofs.lemmas.List.Elements.{filter-append}
use Rattle.std.specs.Prelude.{if◌then◌else◌, nat_le}
use Rattle.std.specs.List.{AllByRecursion, filter}
use Rattle.afdx_conform.specs.Histories.{uncut}
use Rattle.afdx_conform.specs.Leeway.{reach}
use Rattle.afdx_conform.specs.Right.{AllLeaveLater, Asked, EachLeaves, IsUnseen}
use Rattle.afdx_conform.specs.RightCut.{RightIsCut}
use Rattle.afdx_conform.specs.Streams.{Gone, Terms}
use Rattle.afdx_conform.proofs.CuttingLemmas.{IsCutOff, split}
use Rattle.afdx_conform.proofs.EveryLemmas.{every-reverse, every-right, reverse-first}

-- ---- what passes a test, the other way round

pub filter-reverse : {X : Type 0} (test : X → Bool) (xs : List X) → filter test (reverse xs) ≡ reverse (filter test xs)
filter-reverse test [] = refl
filter-reverse test (x ∷ xs) =
    ap (λ l. filter test l) (reverse-first x xs) ∙ filter-append test (reverse xs) (x ∷ [])
    ∙ ap (λ l. l ++ filter test (x ∷ [])) (filter-reverse test xs) ∙ by (test x)
  where
    by : (b : Bool) → reverse (filter test xs) ++ (if b then x ∷ [] else []) ≡ reverse (if b then x ∷ filter test xs
        else filter test xs)
    by true = sym (reverse-first x (filter test xs))
    by false = append-nil (reverse (filter test xs))

pub uncut-reverse : (z : Terms) (ys : List Gone) → uncut z (reverse ys) ≡ reverse (uncut z ys)
uncut-reverse z ys = filter-reverse (λ y. nat_le (y.time + reach z.by) z.until) ys

-- ---- those that are cut off are of arrivals that leave later

module _ (z : Terms) where
  later-one : (waiting : List Asked) (x : Asked) → AllLeaveLater z waiting → AllLeaveLater z (x ∷ [])
      → AllLeaveLater z (waiting ++ (x ∷ []))
  unfolding AllLeaveLater
  later-one [] x h k = k
  later-one (w ∷ waiting) x h k = (h.0, later-one waiting x h.1 k)

  record Moved (waiting took : List Asked) (frames : List Gone) : Type 0 where
    pub wait : List Asked
    pub take : List Asked
    pub same : waiting ++ took ≡ wait ++ take
    pub later : AllLeaveLater z wait
    pub leave : EachLeaves z take frames

  move : (off rest : List Gone) (waiting took : List Asked) → AllLeaveLater z waiting → EachLeaves z took (off ++ rest)
      → AllByRecursion (λ y. IsCutOff z y) off → Moved waiting took rest
  unfolding AllLeaveLater EachLeaves
  move [] rest waiting took h e all =
      record { wait = waiting; take = took; same = refl; later = h; leave = e }
  move (y ∷ off) rest waiting [] h e all = record {
    wait = waiting;
    take = [];
    same = refl;
    later = h;
    leave = every-right (λ w. IsUnseen z z.by.start w) (y ∷ off) rest e;
  }
  move (y ∷ off) rest waiting (x ∷ took) h e all =
      let m = move off rest (waiting ++ (x ∷ [])) took
      (later-one waiting x h (record { frame = y; leaves = e.0; unseen = all.0 }, tt)) e.1 all.1 in
      record {
        wait = m.wait;
        take = m.take;
        same = sym (append_assoc waiting (x ∷ []) took) ∙ m.same;
        later = m.later;
        leave = m.leave;
      }

pub right_cut : RightIsCut
right_cut z asked frames up r =
    let s = split z (reverse frames) up in
    let same : frames ≡ reverse s.off ++ uncut z frames =
    sym (reverse-reverse frames) ∙ ap (λ (l : List Gone). reverse l) s.same
    ∙ reverse-append (uncut z (reverse frames)) s.off
    ∙ ap (λ (l : List Gone). reverse s.off ++ reverse l) (uncut-reverse z frames)
    ∙ ap (λ (l : List Gone). reverse s.off ++ l) (reverse-reverse (uncut z frames)) in
    let m = move z (reverse s.off) (uncut z frames) r.waiting r.took r.later
    (subst (λ (l : List Gone). EachLeaves z r.took l) same r.leave)
    (every-reverse (λ y. IsCutOff z y) s.off s.are_off) in
    record {
      first = r.first;
      moment = r.moment;
      clock = r.clock;
      is_first = r.is_first;
      go_on = r.go_on;
      waiting = m.wait;
      took = m.take;
      accepted = r.accepted ∙ m.same;
      later = m.later;
      leave = m.leave;
    }
