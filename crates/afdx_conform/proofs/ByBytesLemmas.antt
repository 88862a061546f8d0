-- The places that are kept of some bytes, once one more is.
use Rattle.std.proofs.Common.{◌≡◌, ℕ, Bool, true, false, List, [], ◌∷◌, ◌++◌, ◌⊎◌, inl, inr, refl, sym, ap, ◌∙◌, subst}
use Rattle.std.proofs.lemmas.Bool.{false_from_ne_true}
use Rattle.std.proofs.lemmas.Slice.Eq.{bytes_eq-Decides}
use Rattle.std.specs.Prelude.{if◌then◌else◌}
use Rattle.std.specs.Str.{bytes_eq}
use Rattle.afdx_frame.specs.declared.seals.Seal.{Seal}
use Rattle.afdx_frame.specs.declared.seals.Seal.TheVariants.{Right, Wrong, Missing}
use Rattle.afdx_conform.specs.KnownBytes.{kept_at, kept_of, key_of, seal_of, sealed_so}
use Rattle.afdx_conform.specs.declared.by_bytes.ByBytes.{ByBytes}
use Rattle.afdx_conform.specs.declared.places.KeyPlaces.{KeyPlaces}
use Rattle.afdx_conform.proofs.BytesLemmas.{same-found}

pub none-so : (places : ByBytes) → ((key : List ℕ) → kept_at places.right key ≡ [])
    → ((key : List ℕ) → kept_at places.wrong key ≡ []) → ((key : List ℕ) → kept_at places.other key ≡ [])
    → (s : Seal) (key : List ℕ) → kept_at (sealed_so s places) key ≡ []
none-so places right wrong other Right key = right key
none-so places right wrong other Wrong key = wrong key
none-so places right wrong other Missing key = other key

seal-cases : (s t : Seal) → (s ≡ t) ⊎ (s ≡ t → ⊥)
seal-cases Right Right = inl refl
seal-cases Right Wrong = inr (λ e. absurd (cc))
seal-cases Right Missing = inr (λ e. absurd (cc))
seal-cases Wrong Right = inr (λ e. absurd (cc))
seal-cases Wrong Wrong = inl refl
seal-cases Wrong Missing = inr (λ e. absurd (cc))
seal-cases Missing Right = inr (λ e. absurd (cc))
seal-cases Missing Wrong = inr (λ e. absurd (cc))
seal-cases Missing Missing = inl refl

-- those of another seal stay
pub rest-right : (places : ByBytes) (new : KeyPlaces) (t : Seal) → (Right ≡ t → ⊥)
    → sealed_so t (record places { right = new }) ≡ sealed_so t places
rest-right places new Right no' = absurd (no' refl)
rest-right places new Wrong no' = refl
rest-right places new Missing no' = refl

pub rest-wrong : (places : ByBytes) (new : KeyPlaces) (t : Seal) → (Wrong ≡ t → ⊥)
    → sealed_so t (record places { wrong = new }) ≡ sealed_so t places
rest-wrong places new Right no' = refl
rest-wrong places new Wrong no' = absurd (no' refl)
rest-wrong places new Missing no' = refl

pub rest-other : (places : ByBytes) (new : KeyPlaces) (t : Seal) → (Missing ≡ t → ⊥)
    → sealed_so t (record places { other = new }) ≡ sealed_so t places
rest-other places new Right no' = refl
rest-other places new Wrong no' = refl
rest-other places new Missing no' = absurd (no' refl)

module _ (old new : ByBytes) (bytes key : List ℕ) (s : Seal) (place : ℕ) (si : s ≡ seal_of bytes) (ki : key
    ≡ key_of bytes) where
  pub added-so : ((other : List ℕ) → kept_at (sealed_so s new) other
      ≡ (if bytes_eq key other then kept_at (sealed_so s old) other ++ (place ∷ []) else kept_at (sealed_so s old)
      other))
      → ((t : Seal) → (s ≡ t → ⊥) → sealed_so t new ≡ sealed_so t old) → (other : List ℕ)
      → kept_of new other ≡ (if bytes_eq bytes other then kept_of old other ++ (place ∷ []) else kept_of old other)
  added-so added rest other = by (bytes_eq bytes other) refl
    where
      differ : bytes_eq bytes other ≡ false → s ≡ seal_of other → bytes_eq key (key_of other) ≡ false
      differ none same = false_from_ne_true (bytes_eq key (key_of other)) (λ yes.
          let keys = (bytes_eq-Decides key (key_of other)).0 yes in
          let both = same-found bytes other (sym si ∙ same) (sym ki ∙ keys) in
          let is = sym ((bytes_eq-Decides bytes other).1 both) ∙ none in
          absurd cc)

      apart : bytes_eq bytes other ≡ false → (s ≡ seal_of other) ⊎ (s ≡ seal_of other → ⊥)
          → kept_of new other ≡ kept_of old other
      apart none (inl same) =
          subst (λ (t : Seal). kept_at (sealed_so t new) (key_of other) ≡ kept_at (sealed_so t old) (key_of other)) same
          (added (key_of other)
          ∙ ap (λ (b : Bool). if b then kept_at (sealed_so s old) (key_of other) ++ (place ∷ [])
          else kept_at (sealed_so s old) (key_of other)) (differ none same))
      apart none (inr differs) = ap (λ (p : KeyPlaces). kept_at p (key_of other)) (rest (seal_of other) differs)

      by : (b : Bool) → bytes_eq bytes other ≡ b
          → kept_of new other ≡ (if b then kept_of old other ++ (place ∷ []) else kept_of old other)
      by true e =
          subst (λ (l : List ℕ). kept_of new l ≡ kept_of old l ++ (place ∷ [])) ((bytes_eq-Decides bytes other).0 e)
          (subst (λ (t : Seal). kept_at (sealed_so t new) (key_of bytes)
          ≡ kept_at (sealed_so t old) (key_of bytes) ++ (place ∷ [])) si
          (subst (λ (l : List ℕ). kept_at (sealed_so s new) l ≡ kept_at (sealed_so s old) l ++ (place ∷ [])) ki
          (added key ∙ ap (λ (b : Bool). if b then kept_at (sealed_so s old) key ++ (place ∷ [])
          else kept_at (sealed_so s old) key) ((bytes_eq-Decides key key).1 refl))))
      by false e = apart e (seal-cases s (seal_of other))

-- those of the bytes that are found so
pub at-so : (places : ByBytes) (bytes key : List ℕ) (s : Seal) (at : List ℕ) → s ≡ seal_of bytes → key ≡ key_of bytes
    → at ≡ kept_at (sealed_so s places) key → at ≡ kept_of places bytes
at-so places bytes key s at si ki e =
    e ∙ ap (λ (t : Seal). kept_at (sealed_so t places) key) si
    ∙ ap (λ (l : List ℕ). kept_at (sealed_so (seal_of bytes) places) l) ki
