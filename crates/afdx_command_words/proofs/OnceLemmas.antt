-- A word `K=PLACE` says one thing.
use Rattle.std.proofs.Common.{◌≡◌, ◌++◌, ℕ, List, [], ◌∷◌, refl, sym, ap, arith, ◌∙◌, Option, Some, None, subst}
use Rattle.std.proofs.lemmas.List.{append-nil}
use Rattle.afdx_frame.specs.declared.link.Side.{Side}
use Rattle.afdx_frame.specs.declared.link.Side.TheVariants.{A, B}
use Rattle.afdx_command_words.specs.PlaceSaid.{letter, IsPortPart, Spot}
use Rattle.afdx_command_words.specs.PlaceSaid.{IsSite, IsSpot, IsPlace, IsWord}
use Rattle.afdx_command_words.proofs.CutLemmas.{Lacks, apart, lacks-digits}
use Rattle.afdx_command_words.proofs.PlaceLemmas.{site-whole, site-parts, spot-begins, spot-whole, spot-parts, word-parts}
use Rattle.afdx_command_words.proofs.PlaceLemmas.{lacks-letter, lacks-site, spot-made}

letter-once : (a b : Side) → letter a ≡ letter b → a ≡ b
letter-once A A e = refl
letter-once A B e = apart 65 66 [] [] (omega arith) e
letter-once B A e = apart 66 65 [] [] (omega arith) e
letter-once B B e = refl

site-once : (text : List ℕ) (a b : Side) (m n : Option (List ℕ)) → IsSite text a m → IsSite text b n
    → (a ≡ b) × (m ≡ n)
site-once text a b None n is other =
    let whole : text ≡ letter a =
    is.written ∙ ap (λ (xs : List ℕ). letter a ++ xs) is.named ∙ append-nil (letter a) in
    let low : Lacks 32 text = subst (Lacks 32) (sym whole) (lacks-letter 32 a (omega arith) (omega arith)) in
    let same = site-whole text low b n other in
    (letter-once a b (sym whole ∙ same.1), sym same.0)
site-once text a b (Some name) n is other =
    let whole : text ≡ letter a ++ 32 ∷ name =
    is.written ∙ ap (λ (xs : List ℕ). letter a ++ xs) is.named.0 in
    let same = site-parts text (letter a) name whole (lacks-letter 32 a (omega arith) (omega arith)) b n other in
    (letter-once a b same.1, sym same.0)

spot-same : (a b : Spot) → (a.side ≡ b.side) × (a.switch ≡ b.switch) → a.port ≡ b.port → a ≡ b
spot-same a b e f = spot-made a b.side b.switch b.port e.0 e.1 f

spot-once : (text : List ℕ) (a b : Spot) → IsSpot text a → IsSpot text b → a ≡ b
spot-once text a b is other = by a.port refl is.at_port
  where
    low : Lacks 58 is.site
    low = lacks-site is.site a.side a.switch is.at_site

    by : (port : Option ℕ) → a.port ≡ port → IsPortPart is.port_part port → a ≡ b
    by None e p =
        let whole : is.site ≡ text =
        sym (is.written ∙ ap (λ (xs : List ℕ). is.site ++ xs) p ∙ append-nil is.site) in
        let rest = spot-whole text (subst (Lacks 58) whole low) b other in
        let mine : IsSite text a.side a.switch = subst (λ (t : List ℕ). IsSite t a.side a.switch) whole is.at_site in
        spot-same a b (site-once text a.side b.side a.switch b.switch mine rest.1) (e ∙ sym rest.0)
    by (Some port) e p =
        let whole : text ≡ is.site ++ 58 ∷ p.0 = is.written ∙ ap (λ (xs : List ℕ). is.site ++ xs) p.1 in
        let rest = spot-parts text is.site p.0 whole low b other in
        let ports : port ≡ rest.port = sym p.2.number.value ∙ rest.digits.number.value in
        spot-same a b (site-once is.site a.side b.side a.switch b.switch is.at_site rest.site)
        (e ∙ ap Some ports ∙ sym rest.is)

place-once : (text : List ℕ) (a b : Option Spot) → IsPlace text a → IsPlace text b → a ≡ b
place-once text None None is other = refl
place-once text None (Some b) is other = absurd (spot-begins text b other is)
place-once text (Some a) None is other = absurd (spot-begins text a is other)
place-once text (Some a) (Some b) is other = ap Some (spot-once text a b is other)

pub word-once : (word : List ℕ) (k j : ℕ) (a b : Option Spot) → IsWord word k a → IsWord word j b
    → (k ≡ j) × (a ≡ b)
word-once word k j a b is other =
    let low : Lacks 61 is.digits = lacks-digits 61 is.digits is.number.numeral.1 (omega arith) in
    let rest = word-parts word is.digits is.place is.written low j b other in
    (sym is.number.value ∙ rest.number.value, place-once is.place a b is.is rest.place)
