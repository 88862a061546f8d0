-- What is told at once of a switch and of systems, line by line.
use Rattle.std.proofs.Common.{◌≡◌, ℕ, ◌+◌, true, List, [], ◌∷◌, ◌++◌, map, refl, sym, ap, ◌∙◌, subst, arith}
use Rattle.std.proofs.lemmas.List.{append-nil, append_assoc, reverse-append}
use Rattle.std.proofs.KnownBytes.{Appends-nil}
use Rattle.std.specs.Io.KnownBytes.{Appends}
use Rattle.std.specs.Prelude.{Err, Ok, OnOk, Option, Result, min}
use Rattle.afdx_input_lines.specs.Calls.{AppendsFront}
use Rattle.afdx_senders.specs.Lines.{Line, line_of}
use Rattle.afdx_senders.specs.declared.sender_line.SenderLine.{SenderLine}
use Rattle.afdx_text.proofs.OutputLemmas.{front-longer}
use Rattle.afdx_text.specs.ConformLines.{conform_text}
use Rattle.afdx_text.specs.declared.conform_line.ConformLine.{ConformLine}
use Rattle.afdx_command_conform.proofs.TellingLemmas.{no-findings, no-text, text-append, text-one}
use Rattle.afdx_command_conform.specs.Lines.{Due}
use Rattle.afdx_command_conform.specs.Telling.{findings_in, lines_text, most_counted}
use Rattle.afdx_command_senders.specs.BothTold.{OfSender, OfSwitch, Told}
use Rattle.afdx_command_senders.specs.Merging.{AreCountedTo, IsNoneBefore, IsToldTo, comes_before, lines_up, merged}
use Rattle.afdx_command_senders.specs.SenderRun.{told_in}
use Rattle.afdx_command_senders.specs.SenderTexts.{lines_of, told_lines}
use Rattle.afdx_command_senders.proofs.MergeLemmas.{merged-due, merged-line, merged-none, merged-rest}
use Rattle.afdx_command_senders.proofs.SenderRunLemmas.{found-told, front-two, no-lines, one-more, text-two}

-- ---- lines

line-first : (x : Line) (m : List Told) → lines_up (OfSender x ∷ m) ≡ lines_of x ++ lines_up m
unfolding lines_up
line-first x m = refl

due-first : (d : Due) (m : List Told) → lines_up (OfSwitch d ∷ m) ≡ (d.line ∷ []) ++ lines_up m
unfolding lines_up
due-first d m = refl

dues-up : (ds : List Due) → lines_up (map OfSwitch ds) ≡ map (λ (d : Due). d.line) ds
unfolding lines_up
dues-up [] = refl
dues-up (d ∷ ds) = ap (λ (l : List ConformLine). d.line ∷ l) (dues-up ds)

module _ (start mid end : Option (List ℕ)) (done ys rest all : List ConformLine)
    (written : Appends start mid (lines_text done)) (are : done ++ (ys ++ rest) ≡ all) where
  so-far : (done ++ ys) ++ rest ≡ all
  so-far = append_assoc done ys rest ∙ are

  with-more : Appends mid end (lines_text ys) → Appends start end (lines_text (done ++ ys))
  with-more put = text-two start mid end done ys written put

  begun-more : AppendsFront mid end (lines_text ys) → AppendsFront start end (lines_text all)
  begun-more put =
      subst (λ (l : List ℕ). AppendsFront start end l)
      (sym (text-append (done ++ ys) rest) ∙ ap (λ (l : List ConformLine). lines_text l) so-far)
      (front-longer start end (lines_text (done ++ ys)) (lines_text rest)
      (front-two start mid end done ys written put))

-- what comes first is what is found of a frame
none-first : (x : Line) (xs : List Line) (ds : List Due) → IsNoneBefore x ds
    → merged (x ∷ xs) ds ≡ OfSender x ∷ merged xs ds
none-first x xs [] h = merged-none xs x
none-first x xs (d ∷ ds) h = merged-line x xs d ds h

module _ (start mid end : Option (List ℕ)) (x : Line) (xs : List Line) (all : List ConformLine) where
  module _ (d : Due) (ds : List Due) (first : comes_before d x ≡ true)
      (h : IsToldTo start mid (x ∷ xs) (d ∷ ds) all) where
    rest-due : h.done ++ ((d.line ∷ []) ++ lines_up (merged (x ∷ xs) ds)) ≡ all
    rest-due =
        ap (λ (l : List ConformLine). h.done ++ l)
        (sym (due-first d (merged (x ∷ xs) ds))
        ∙ ap (λ (m : List Told). lines_up m) (sym (merged-due x xs d ds first)))
        ∙ h.rest

    text-due : conform_text d.line ≡ lines_text (d.line ∷ [])
    text-due = sym (text-one d.line)

    pub told-due : Appends mid end (conform_text d.line) → IsToldTo start end (x ∷ xs) ds all
    told-due put = record {
      done = h.done ++ (d.line ∷ []);
      written = with-more start mid end h.done (d.line ∷ []) (lines_up (merged (x ∷ xs) ds)) all h.written rest-due
          (subst (λ (l : List ℕ). Appends mid end l) text-due put);
      rest = so-far start mid end h.done (d.line ∷ []) (lines_up (merged (x ∷ xs) ds)) all h.written rest-due;
    }

    pub begun-due : AppendsFront mid end (conform_text d.line) → AppendsFront start end (lines_text all)
    begun-due put =
        begun-more start mid end h.done (d.line ∷ []) (lines_up (merged (x ∷ xs) ds)) all h.written rest-due
        (subst (λ (l : List ℕ). AppendsFront mid end l) text-due put)

  module _ (ds : List Due) (none : IsNoneBefore x ds) (h : IsToldTo start mid (x ∷ xs) ds all) where
    rest-line : h.done ++ (lines_of x ++ lines_up (merged xs ds)) ≡ all
    rest-line =
        ap (λ (l : List ConformLine). h.done ++ l)
        (sym (line-first x (merged xs ds)) ∙ ap (λ (m : List Told). lines_up m) (sym (none-first x xs ds none)))
        ∙ h.rest

    pub told-line : Appends mid end (lines_text (lines_of x)) → IsToldTo start end xs ds all
    told-line put = record {
      done = h.done ++ lines_of x;
      written = with-more start mid end h.done (lines_of x) (lines_up (merged xs ds)) all h.written rest-line put;
      rest = so-far start mid end h.done (lines_of x) (lines_up (merged xs ds)) all h.written rest-line;
    }

    pub begun-line : AppendsFront mid end (lines_text (lines_of x)) → AppendsFront start end (lines_text all)
    begun-line put = begun-more start mid end h.done (lines_of x) (lines_up (merged xs ds)) all h.written rest-line put

-- the rest is of the switch
module _ (start mid end : Option (List ℕ)) (ds : List Due) (all : List ConformLine)
    (h : IsToldTo start mid [] ds all) where
  rest-last : h.done ++ (map (λ (d : Due). d.line) ds ++ []) ≡ all
  rest-last =
      ap (λ (l : List ConformLine). h.done ++ l)
      (append-nil (map (λ (d : Due). d.line) ds) ∙ sym (dues-up ds)
      ∙ ap (λ (m : List Told). lines_up m) (sym (merged-rest ds)))
      ∙ h.rest

  pub told-rest : Appends mid end (lines_text (map (λ (d : Due). d.line) ds)) → Appends start end (lines_text all)
  told-rest put =
      subst (λ (l : List ConformLine). Appends start end (lines_text l))
      (sym (append-nil (h.done ++ map (λ (d : Due). d.line) ds))
      ∙ so-far start mid end h.done (map (λ (d : Due). d.line) ds) [] all h.written rest-last)
      (with-more start mid end h.done (map (λ (d : Due). d.line) ds) [] all h.written rest-last put)

  pub begun-rest : AppendsFront mid end (lines_text (map (λ (d : Due). d.line) ds))
      → AppendsFront start end (lines_text all)
  begun-rest put = begun-more start mid end h.done (map (λ (d : Due). d.line) ds) [] all h.written rest-last put

pub nothing-told : (o : Option (List ℕ)) → Appends o o (lines_text [])
nothing-told o = subst (λ (l : List ℕ). Appends o o l) (sym no-text) (Appends-nil o)

pub told-at-first : (o : Option (List ℕ)) (xs : List Line) (ds : List Due)
    → Appends o o (lines_text []) → IsToldTo o o xs ds (lines_up (merged xs ds))
told-at-first o xs ds none = record { done = []; written = none; rest = refl }

-- ---- by what comes first of each

module _ (start mid end : Option (List ℕ)) (lines : List SenderLine) (line : SenderLine) (more : List SenderLine)
    (due : List Due) (all : List ConformLine) (are : lines ≡ line ∷ more)
    (h : IsToldTo start mid (map line_of lines) due all) where
  by-first : IsToldTo start mid (line_of line ∷ map line_of more) due all
  by-first = subst (λ (l : List SenderLine). IsToldTo start mid (map line_of l) due all) are h

  module _ (d : Due) (rest : List Due) (of : due ≡ d ∷ rest) (first : comes_before d (line_of line) ≡ true) where
    by-both : IsToldTo start mid (line_of line ∷ map line_of more) (d ∷ rest) all
    by-both = subst (λ (l : List Due). IsToldTo start mid (line_of line ∷ map line_of more) l all) of by-first

    pub next-due : Appends mid end (conform_text d.line) → IsToldTo start end (map line_of lines) rest all
    next-due put = subst (λ (l : List SenderLine). IsToldTo start end (map line_of l) rest all) (sym are)
        (told-due start mid end (line_of line) (map line_of more) all d rest first by-both put)

    pub at-due : AppendsFront mid end (conform_text d.line) → AppendsFront start end (lines_text all)
    at-due put = begun-due start mid end (line_of line) (map line_of more) all d rest first by-both put

  pub next-line : IsNoneBefore (line_of line) due → Appends mid end (lines_text (lines_of (line_of line)))
      → IsToldTo start end (map line_of more) due all
  next-line none put = told-line start mid end (line_of line) (map line_of more) all due none by-first put

  pub at-line : IsNoneBefore (line_of line) due → AppendsFront mid end (lines_text (lines_of (line_of line)))
      → AppendsFront start end (lines_text all)
  at-line none put = begun-line start mid end (line_of line) (map line_of more) all due none by-first put

-- ---- findings

found-first : (x : SenderLine) (xs : List SenderLine)
    → findings_in (told_lines (told_in (x ∷ xs)))
    ≡ findings_in (lines_of (line_of x)) + findings_in (told_lines (told_in xs))
found-first x xs =
    ap (λ (l : List Line). findings_in (told_lines l)) (reverse-append (line_of x ∷ []) (map line_of xs))
    ∙ found-told (told_in xs) (line_of x ∷ [])
    ∙ ap (λ (l : List ConformLine). findings_in l + findings_in (told_lines (told_in xs)))
    (one-more (line_of x) [] ∙ ap (λ (l : List ConformLine). l ++ lines_of (line_of x)) no-lines)

pub counted-line : (old mid new : ℕ) (x : SenderLine) (xs : List SenderLine) (all : ℕ)
    → AreCountedTo old mid (x ∷ xs) all → new ≡ min (mid + findings_in (lines_of (line_of x))) most_counted
    → AreCountedTo old new xs all
counted-line old mid new x xs all h e = record {
  done = h.done + findings_in (lines_of (line_of x));
  counted = λ n is. (let c = h.counted n is in omega (arith, c, e));
  rest = (let f = found-first x xs in let r = h.rest in omega (arith, f, r));
}

pub counted-at-first : (old : ℕ) (lines : List SenderLine)
    → AreCountedTo old old lines (findings_in (told_lines (told_in lines)))
counted-at-first old lines = record { done = 0; counted = λ n is. (omega (arith, is)); rest = (omega arith) }

none-found : findings_in (told_lines (told_in [])) ≡ 0
none-found = ap (λ (l : List ConformLine). findings_in l) no-lines ∙ no-findings

pub counted-rest : (old now all : ℕ) → AreCountedTo old now [] all → (n : ℕ) → old ≡ min n most_counted
    → now ≡ min (n + all) most_counted
counted-rest old now all h n is =
    let c = h.counted n is in
    let r = h.rest in
    let none = none-found in
    omega (arith, c, r, none)

pub ok-on : {V E : Type 0} {P : Type 0} (r : Result V E) → P → OnOk r P
ok-on (Ok v) p = p
ok-on (Err e) p = tt
