use Rattle.std.proofs.Common.{rules, arith, ◌≡◌, ◌∙◌, ◌+◌, ◌++◌, [], List, ℕ, length, take, sym, ap, refl}
use Rattle.std.proofs.lemmas.Grind.{common_steps}
use Rattle.std.proofs.lemmas.List.{append-nil, length-take-le, take-append-drop}
use Rattle.afdx_input_files.specs.Holding.{unread}
use Rattle.afdx_input_files.proofs.HeldLemmas.{unread_length, Passes-then, Passes-held}
use Rattle.afdx_input_files.proofs.held.Held.skip.Goals as goal

pub returns-in_err-refill-clause-few : goal.returns-in_err-refill-clause-few
returns-in_err-refill-clause-few g c = λ _.
    let past = c.reads.invariant.passed in
    let u = unread c.reads.self in
    let bytes = (past.0 ++ u) ++ [] in
    let size : length bytes ≡ length past.0 + length u = grind (arith, common_steps) in (
      bytes,
      Passes-then _ _ _ (past.0 ++ u) [] (Passes-then _ _ _ past.0 u past.1 (Passes-held _ _ u
          (sym (append-nil u) ∙ ap (λ (xs : List ℕ). u ++ xs) (sym c.clear.ensures.unread)) refl refl refl))
          c.refill.ensures.passes,
      omega (
        arith,
        size,
        past.2,
        unread_length c.refill.new.self,
        c.in_err-refill.ensures.same,
        c.refill.ensures.start,
        c.clear.ensures.start,
        c.clear.ensures.end,
        c.reads-test.true,
        c.count.ensures,
      ),
    )

pub returns-in-Ended-clause-last : goal.returns-in-Ended-clause-last
returns-in-Ended-clause-last g c = λ _.
    let past = c.reads.invariant.passed in
    let u = unread c.reads.self in
    let bytes = (past.0 ++ u) ++ [] in
    let size : length bytes ≡ length past.0 + length u = grind (arith, common_steps) in
    let same = c.refill.ensures.none (search rules) in (
      c.refill.ensures.ended (search rules),
      bytes,
      Passes-then _ _ _ (past.0 ++ u) [] (Passes-then _ _ _ past.0 u past.1 (Passes-held _ _ u
          (sym (append-nil u) ∙ ap (λ (xs : List ℕ). u ++ xs) (sym c.clear.ensures.unread)) refl refl refl))
          c.refill.ensures.passes,
      omega (
        arith,
        size,
        past.2,
        unread_length c.refill.new.self,
        same,
        c.refill.ensures.start,
        c.clear.ensures.start,
        c.clear.ensures.end,
        c.reads-test.true,
        c.count.ensures,
      ),
    )

pub returns-clause-all : goal.returns-clause-all
returns-clause-all g c = λ _.
    let past = c.reads.invariant.passed in
    let u = unread c.reads.self in
    let last = take c.reads.missing u in
    let few = length-take-le c.reads.missing u (omega (arith, c.reads-test.false, c.count.ensures)) in
    let size : length (past.0 ++ last) ≡ length past.0 + length last = grind (arith, common_steps) in (
      past.0 ++ last,
      Passes-then _ _ _ past.0 last past.1 (Passes-held _ _ last
          (sym (take-append-drop c.reads.missing u)
          ∙ ap (λ (xs : List ℕ). last ++ xs) (sym c.pass.ensures.unread)) refl refl refl),
      omega (arith, size, few, past.2),
    )

pub reads-preserved : goal.reads-preserved
reads-preserved g c =
    let past = c.reads.invariant.passed in
    let u = unread c.reads.self in
    let bytes = (past.0 ++ u) ++ [] in
    let size : length bytes ≡ length past.0 + length u = grind (arith, common_steps) in
    record {
      sound = search rules;
      honest = c.refill.ensures.honest;
      passed = (
        bytes,
        Passes-then _ _ _ (past.0 ++ u) [] (Passes-then _ _ _ past.0 u past.1 (Passes-held _ _ u
            (sym (append-nil u) ∙ ap (λ (xs : List ℕ). u ++ xs) (sym c.clear.ensures.unread)) refl refl refl))
            c.refill.ensures.passes,
        omega (arith, size, past.2, c.reads-test.true, c.count.ensures, c.count-missing.ensures),
      );
    }

pub reads-smaller : goal.reads-smaller
reads-smaller g c = omega (
  arith,
  c.reads-test.true,
  c.count.ensures,
  c.count-missing.ensures,
  unread_length c.reads.self,
  c.refill.ensures.more (search rules),
  c.refill.ensures.start,
  c.clear.ensures.start,
  c.clear.ensures.end,
)
