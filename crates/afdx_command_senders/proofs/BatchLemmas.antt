-- What is told at once of several frames, the oldest first.
use Rattle.std.proofs.Common.{◌≡◌, ℕ, ◌+◌, ◌<◌, List, [], ◌∷◌, ◌++◌, drop, get_or, length, map, reverse, take, sym, ap, ◌∙◌, subst}
use Rattle.std.proofs.lemmas.List.{map-append, reverse-append, take-append-drop, take_more}
use Rattle.std.specs.Prelude.{Err, Ok, OnErr, OnOk, Option, Result}
use Rattle.afdx_input_lines.specs.Calls.{AppendsFront}
use Rattle.afdx_senders.specs.Lines.{Line, line_of}
use Rattle.afdx_senders.specs.declared.sender_line.SenderLine.{SenderLine}
use Rattle.afdx_senders.specs.declared.senders.Senders.{Senders}
use Rattle.afdx_text.proofs.OutputLemmas.{front-longer}
use Rattle.afdx_text.specs.declared.conform_line.ConformLine.{ConformLine}
use Rattle.afdx_command_conform.proofs.TellingLemmas.{text-append}
use Rattle.afdx_command_conform.specs.Telling.{lines_text}
use Rattle.afdx_command_senders.specs.SenderRun.{HasBegunUpTo, HasToldUpTo, TellsMore, TellsUpTo, told_in, told_text}
use Rattle.afdx_command_senders.specs.SenderTexts.{told_lines}
use Rattle.afdx_command_senders.specs.declared.judging.SendersRun.{SendersRun}
use Rattle.afdx_command_senders.proofs.SenderRunLemmas.{begun-later, text-front, text-none, told-append, told-begun}

-- those of two parts
pub in-both : (xs ys : List SenderLine) → told_in (xs ++ ys) ≡ told_in ys ++ told_in xs
in-both xs ys = ap (λ (l : List Line). reverse l) (map-append line_of xs ys)
    ∙ reverse-append (map line_of xs) (map line_of ys)

-- one more
pub in-more : (xs : List SenderLine) (x : SenderLine) → told_in (xs ++ (x ∷ [])) ≡ line_of x ∷ told_in xs
in-more xs x = in-both xs (x ∷ [])

pub in-next : (xs : List SenderLine) (i : ℕ) (d : SenderLine) → i < length xs
    → told_in (take (i + 1) xs) ≡ line_of (get_or xs i d) ∷ told_in (take i xs)
in-next xs i d within = ap (λ l. told_in l) (take_more xs i d within) ∙ in-more (take i xs) (get_or xs i d)

in-split : (xs : List SenderLine) (i : ℕ) → told_in xs ≡ told_in (drop i xs) ++ told_in (take i xs)
in-split xs i = ap (λ l. told_in l) (sym (take-append-drop i xs)) ∙ in-both (take i xs) (drop i xs)

-- a beginning of the text of the first is one of all
pub batch-front : (a b : Option (List ℕ)) (xs : List SenderLine) (i : ℕ)
    → AppendsFront a b (told_text (told_in (take i xs))) → AppendsFront a b (told_text (told_in xs))
batch-front a b xs i h =
    subst (λ (l : List ℕ). AppendsFront a b l)
    (sym (text-append (told_lines (told_in (take i xs))) (told_lines (told_in (drop i xs))))
    ∙ ap (λ (l : List ConformLine). lines_text l) (sym (told-append (told_in (drop i xs)) (told_in (take i xs))))
    ∙ ap (λ (l : List Line). told_text l) (sym (in-split xs i)))
    (front-longer a b (told_text (told_in (take i xs))) (told_text (told_in (drop i xs))) h)

-- ---- once they are collected

module _ (before end : Option ℕ) (old mid new : SendersRun) (a b : Option (List ℕ)) (more : List Line)
    (up : TellsUpTo before end old.senders mid.senders more) where
  pub batch-told : {V E : Type 0} (r : Result V E) → mid.findings ≡ old.findings → new.senders ≡ mid.senders
      → OnOk r (TellsMore mid new a b more) → OnOk r (HasToldUpTo before end old new a b)
  batch-told (Err e) counted same told = tt
  batch-told (Ok v) counted same told = record {
    more = more;
    tells = record { written = told.written; findings = λ n is. told.findings n (counted ∙ is) };
    up_to = subst (λ (s : Senders). TellsUpTo before end old.senders s more) (sym same) up;
  }

  pub batch-begun : {V E : Type 0} (r : Result V E) → OnErr r (AppendsFront a b (told_text more))
      → OnErr r (HasBegunUpTo before end old a b)
  batch-begun (Ok v) begun = tt
  batch-begun (Err e) begun = record {
    more = more;
    begun = begun;
    up_to = λ z by xs told h soon is. told-begun z before xs (more ++ told) mid.senders (up z by xs told h soon is).0;
  }

-- or there was no memory for them
pub batch-none : (before end : Option ℕ) (old : SendersRun) (a : Option (List ℕ)) → HasBegunUpTo before end old a a
batch-none before end old a = record {
  more = [];
  begun = text-front a a [] (text-none a);
  up_to = λ z by xs told h soon is. begun-later z by before xs told soon (told-begun z by xs told old.senders h);
}
