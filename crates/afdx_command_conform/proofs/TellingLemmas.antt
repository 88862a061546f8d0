-- Lines that are told, and how many of them are findings.
use Rattle.std.proofs.Common.{◌≡◌, ◌+◌, ◌<◌, ◌++◌, ◌∙◌, ℕ, Bool, List, [], ◌∷◌, Option, ap, append-nil, append_assoc}
use Rattle.std.proofs.Common.{arith, drop, get_or, length, map, min, refl, subst, sym, take}
use Rattle.std.proofs.lemmas.List.{get_or-map, length-map, take-append-drop, take_more}
use Rattle.std.proofs.KnownBytes.{Appends-trans}
use Rattle.std.specs.Io.KnownBytes.{Appends}
use Rattle.afdx_input_lines.specs.Calls.{AppendsFront}
use Rattle.afdx_text.proofs.OutputLemmas.{front-longer, front-more}
use Rattle.afdx_text.specs.ConformLines.{conform_text}
use Rattle.afdx_text.specs.declared.conform_line.ConformLine.{ConformLine}
use Rattle.afdx_command_conform.specs.Lines.{Due}
use Rattle.afdx_command_conform.specs.Telling.{findings_in, is_finding, lines_text, most_counted, one_if}

-- ---- their text

pub no-text : lines_text [] ≡ []
unfolding lines_text
no-text = refl

pub no-findings : findings_in [] ≡ 0
unfolding findings_in
no-findings = refl

pub text-append : (xs ys : List ConformLine) → lines_text (xs ++ ys) ≡ lines_text xs ++ lines_text ys
unfolding lines_text
text-append [] ys = refl
text-append (x ∷ xs) ys =
    ap (λ (l : List ℕ). conform_text x ++ l) (text-append xs ys)
    ∙ sym (append_assoc (conform_text x) (lines_text xs) (lines_text ys))

pub text-one : (x : ConformLine) → lines_text (x ∷ []) ≡ conform_text x
unfolding lines_text
text-one x = append-nil (conform_text x)

pub text-next : (xs : List ConformLine) (i : ℕ) (d : ConformLine) → i < length xs
    → lines_text (take (i + 1) xs) ≡ lines_text (take i xs) ++ conform_text (get_or xs i d)
text-next xs i d within =
    ap lines_text (take_more xs i d within)
    ∙ text-append (take i xs) (get_or xs i d ∷ [])
    ∙ ap (λ (l : List ℕ). lines_text (take i xs) ++ l) (text-one (get_or xs i d))

-- one more is put
pub told-next : (a b c : Option (List ℕ)) (xs : List ConformLine) (i : ℕ) (d : ConformLine) → i < length xs
    → Appends a b (lines_text (take i xs)) → Appends b c (conform_text (get_or xs i d))
    → Appends a c (lines_text (take (i + 1) xs))
told-next a b c xs i d within before here =
    subst (λ (l : List ℕ). Appends a c l) (sym (text-next xs i d within))
    (Appends-trans a b c (lines_text (take i xs)) (conform_text (get_or xs i d)) before here)

-- or a beginning of it
pub begun-next : (a b c : Option (List ℕ)) (xs : List ConformLine) (i : ℕ) (d : ConformLine) → i < length xs
    → Appends a b (lines_text (take i xs)) → AppendsFront b c (conform_text (get_or xs i d))
    → AppendsFront a c (lines_text xs)
begun-next a b c xs i d within before here =
    subst (λ (l : List ℕ). AppendsFront a c l)
    (ap (λ (l : List ℕ). l ++ lines_text (drop (i + 1) xs)) (sym (text-next xs i d within))
    ∙ sym (text-append (take (i + 1) xs) (drop (i + 1) xs)) ∙ ap lines_text (take-append-drop (i + 1) xs))
    (front-longer a c (lines_text (take i xs) ++ conform_text (get_or xs i d)) (lines_text (drop (i + 1) xs))
    (front-more a b c (lines_text (take i xs)) (conform_text (get_or xs i d)) before here))

-- of what is due
module _ (a b c : Option (List ℕ)) (xs : List Due) (i : ℕ) (d : Due) (within : i < length xs)
    (before : Appends a b (lines_text (take i (map (λ (x : Due). x.line) xs)))) where
  due-within : i < length (map (λ (x : Due). x.line) xs)
  due-within = let n = length-map xs (λ (x : Due). x.line) in omega (arith, n, within)

  due-at : conform_text (get_or (map (λ (x : Due). x.line) xs) i d.line) ≡ conform_text (get_or xs i d).line
  due-at = ap conform_text (get_or-map (λ (x : Due). x.line) xs i d d.line within)

  pub told-due : Appends b c (conform_text (get_or xs i d).line)
      → Appends a c (lines_text (take (i + 1) (map (λ (x : Due). x.line) xs)))
  told-due here = told-next a b c (map (λ (x : Due). x.line) xs) i d.line due-within before
      (subst (λ (l : List ℕ). Appends b c l) (sym due-at) here)

  pub begun-due : AppendsFront b c (conform_text (get_or xs i d).line)
      → AppendsFront a c (lines_text (map (λ (x : Due). x.line) xs))
  begun-due here = begun-next a b c (map (λ (x : Due). x.line) xs) i d.line due-within before
      (subst (λ (l : List ℕ). AppendsFront b c l) (sym due-at) here)

-- ---- how many are findings

pub findings-append : (xs ys : List ConformLine) → findings_in (xs ++ ys) ≡ findings_in xs + findings_in ys
unfolding findings_in
findings-append [] ys = omega arith
findings-append (x ∷ xs) ys = omega (arith, findings-append xs ys)

findings-one : (x : ConformLine) → findings_in (x ∷ []) ≡ one_if (is_finding x)
unfolding findings_in
findings-one x = omega arith

pub findings-next : (xs : List ConformLine) (i : ℕ) (d : ConformLine) → i < length xs
    → findings_in (take (i + 1) xs) ≡ findings_in (take i xs) + one_if (is_finding (get_or xs i d))
findings-next xs i d within =
    ap findings_in (take_more xs i d within)
    ∙ findings-append (take i xs) (get_or xs i d ∷ [])
    ∙ ap (λ (n : ℕ). findings_in (take i xs) + n)
    (findings-one (get_or xs i d))

-- one more is counted
pub counted-next : (xs : List ConformLine) (i : ℕ) (d : ConformLine) (old new : ℕ) (is : Bool) → i < length xs
    → is ≡ is_finding (get_or xs i d) → old ≡ min (findings_in (take i xs)) most_counted
    → new ≡ min (old + one_if is) most_counted → new ≡ min (findings_in (take (i + 1) xs)) most_counted
counted-next xs i d old new is within test before here =
    let next = findings-next xs i d within in
    let same : one_if is ≡ one_if (is_finding (get_or xs i d)) = ap one_if test in
    omega (arith, next, same, before, here)
