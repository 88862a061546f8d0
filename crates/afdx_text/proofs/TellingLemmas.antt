-- What a device is told piece by piece.
use Rattle.std.proofs.Common.{◌≡◌, ℕ, Bool, true, false, List, [], ◌++◌, Option, refl, sym, ap, ◌∙◌}
use Rattle.std.proofs.Common.{subst}
use Rattle.std.proofs.KnownBytes.{Appends-nil, Appends-trans}
use Rattle.afdx_input_lines.specs.Calls.{AppendsFront}
use Rattle.afdx_text.specs.Telling.{Tells}
use Rattle.afdx_text.proofs.OutputLemmas.{front-longer, front-more}
use Rattle.afdx_input_lines.specs.declared.watched.Watched.{Watched}

-- one piece more
pub Tells-more : {W : Type 0} (contents : W → Option (List ℕ)) (a b c : Watched W) (x y : List ℕ)
    → Tells contents a b x → Tells contents b c y → Tells contents a c (x ++ y)
Tells-more {W = W} contents a b c x y first second = by b.failed refl
  where
    unasked : a.failed ≡ true → c ≡ a
    unasked is = second.unasked (ap (λ (w : Watched W). w.failed) (first.unasked is) ∙ is) ∙ first.unasked is

    by : (failed : Bool) → b.failed ≡ failed → Tells contents a c (x ++ y)
    by true is = record {
      whole = λ sound. absurd (cc (sound, second.unasked is, is));
      begun = subst (λ (w : Watched W). AppendsFront (contents a.inner) (contents w.inner) (x ++ y))
          (sym (second.unasked is)) (front-longer _ _ x y first.begun);
      unasked = unasked;
    }
    by false is = record {
      whole = λ sound. Appends-trans _ _ _ x y (first.whole is) (second.whole sound);
      begun = front-more _ _ _ x y (first.whole is) second.begun;
      unasked = unasked;
    }

-- nothing is told
pub Tells-none : {W : Type 0} (contents : W → Option (List ℕ)) (a : Watched W) → Tells contents a a []
Tells-none contents a =
    record { whole = λ sound. Appends-nil _; begun = ([], [], refl, Appends-nil _); unasked = λ failed. refl }
