-- What a run answers, case by case.
use Rattle.std.proofs.Common.{◌≡◌, ◌∷◌, List, Result, Ok, Err, ◌⊎◌, inl, inr, refl, subst}
use Rattle.afdx_input_lines.specs.declared.fault.RunFault.{RunFault}
use Rattle.afdx_input_sources.specs.Engine.{Item, item_of, Runs}
use Rattle.afdx_text.specs.Sinks.{IsOfOutput}

-- a beginning of the text of these items, of which the newest is another word for the same
pub told-some : {H : Type 0} (begins : List (Item H) → Type 0) {x y : Item H} (past : List (Item H)) → x ≡ y
    → begins past ⊎ begins (x ∷ past) → begins (y ∷ past) ⊎ begins past
told-some begins past e (inl b) = inr b
told-some begins past e (inr b) = inl (subst (λ z. begins (z ∷ past)) e b)

module _ {H : Type 0} (gave ended done so_far begins : List (Item H) → Type 0)
    (stopped : List (Item H) → RunFault → Type 0) where
  -- the source ended
  pub runs-ended : {A : Type 0} (past : List (Item H)) (result : Result A RunFault) → ended past
      → ((a : A) → result ≡ Ok a → done past)
      → ((fault : RunFault) → result ≡ Err fault → IsOfOutput fault × begins past)
      → Runs gave ended done so_far begins stopped result
  runs-ended past (Ok a) e d b = (past, e, d a refl)
  runs-ended past (Err fault) e d b = let h = b fault refl in (past, inr (h.0, inr e, inl h.1))

pub same-item : {H : Type 0} (x : Item H) (number : _) (head : H) (bytes : List _) →
    number ≡ x.number → head ≡ x.head → bytes ≡ x.bytes → item_of number head bytes ≡ x
same-item x number head bytes a b c = rw (a, b, c) refl
