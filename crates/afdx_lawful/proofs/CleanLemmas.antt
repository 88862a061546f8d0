-- What is known of frames of which nothing is found.
use Rattle.std.proofs.Common.{◌≡◌, ℕ, Bool, true, false, List, [], ◌∷◌, ◌++◌, refl, sym, ap, ◌∙◌}
use Rattle.std.specs.Prelude.{if◌then◌else◌, Option, Some, None, Result, Ok, Err, map, reverse}
use Rattle.std.specs.Prelude.{option_map, option_to_list}
use Rattle.std.proofs.lemmas.Bool.{cond-true}
use Rattle.std.proofs.lemmas.List.{reverse-reverse}
use Rattle.afdx_frame.specs.Parts.{FrameParts, frame_of}
use Rattle.afdx_frame.specs.declared.fault.MacFault.{MacFault}
use Rattle.afdx_lawful.specs.Alone.{found_alone, flawed, has_room, number_after, other_number}
use Rattle.afdx_lawful.specs.Alone.{times_with_room, too_soon}
use Rattle.afdx_lawful.specs.Flaws.{flaw_in, flaw_of, is_frame, is_whole, whole_of}
use Rattle.afdx_lawful.specs.Judged.{found_at, found_coming, found_of, found_whole, found_with, waiting_of}
use Rattle.afdx_lawful.specs.Partners.{other, partner}
use Rattle.afdx_lawful.specs.Sources.{Came, Source, on_side}
use Rattle.afdx_lawful.specs.declared.finding.SenderFinding.{SenderFinding}
use Rattle.afdx_lawful.specs.declared.finding.SenderFinding.TheVariants.{Unlawful}
use Rattle.afdx_lawful.specs.declared.finding.Flaw.{Flaw}

-- ---- lists of nothing

pub no_parts : {X : Type 0} (xs ys : List X) → xs ++ ys ≡ [] → (xs ≡ []) × (ys ≡ [])
no_parts [] ys h = (refl, h)
no_parts (x ∷ xs) ys h = absurd (cc h)

pub none_mapped : {X Y : Type 0} (f : X → Y) (xs : List X) → map f xs ≡ [] → xs ≡ []
none_mapped f [] h = refl
none_mapped f (x ∷ xs) h = absurd (cc h)

pub none_reversed : {X : Type 0} (xs : List X) → reverse xs ≡ [] → xs ≡ []
none_reversed xs h = sym (reverse-reverse xs) ∙ ap reverse h

none_where : (b : Bool) (f : SenderFinding) → (if b then [] else f ∷ []) ≡ [] → b ≡ true
none_where true f h = refl
none_where false f h = absurd (cc h)

none_flawed : (line : ℕ) (o : Option Flaw) → option_to_list (option_map (Unlawful line) o) ≡ [] → o ≡ None
none_flawed line None h = refl
none_flawed line (Some flaw) h = absurd (cc h)

-- ---- a frame

pub record IsClean (s : Source) (past : List Came) (x : Came) : Type 0 where
  pub whole : is_whole x ≡ true
  pub flawless : flaw_of s x ≡ None
  pub roomy : has_room s (times_with_room s (on_side x.side (whole_of past))) x.time ≡ true

module _ (s : Source) (past : List Came) (x : Came) where
  damaged_flawed : (r : Result FrameParts MacFault) → is_frame r ≡ false → flaw_in s x r ≡ None → ⊥
  damaged_flawed (Ok parts) h e = cc h
  damaged_flawed (Err fault) h e = cc e

  alone_clean : is_whole x ≡ true → found_alone s (on_side x.side (whole_of past)) x ≡ [] → IsClean s past x
  unfolding found_alone
  alone_clean whole h =
      let ys : List Came = on_side x.side (whole_of past) in
      let first = no_parts (flawed s x)
      (other_number s x (number_after s ys) ++ too_soon s x (times_with_room s ys)) h in
      let others = no_parts (other_number s x (number_after s ys)) (too_soon s x (times_with_room s ys)) first.1 in
      record {
        whole = whole;
        flawless = none_flawed x.line (flaw_of s x) first.0;
        roomy = none_where (has_room s (times_with_room s ys) x.time) _ others.1;
      }

  clean_by : (b : Bool) → is_whole x ≡ b → (if b then found_whole s past x else flawed s x) ≡ [] → IsClean s past x
  unfolding is_whole flaw_of
  clean_by true whole h = alone_clean whole (no_parts (found_alone s (on_side x.side (whole_of past)) x)
      (found_with s x (partner s x (waiting_of s (other x.side) past))) h).0
  clean_by false damaged h = absurd (damaged_flawed (frame_of x.bytes) damaged (none_flawed x.line (flaw_of s x) h))

  frame_clean : found_of s past x ≡ [] → IsClean s past x
  unfolding found_of
  frame_clean h = clean_by (is_whole x) refl h

-- ---- all

unfoldable pub AreClean : Source → List Came → Type 0
AreClean s [] = Unit {0}
AreClean s (x ∷ past) = IsClean s past x × AreClean s past

pub all_clean : (s : Source) (xs : List Came) → found_coming s xs ≡ [] → AreClean s xs
unfolding found_coming AreClean
all_clean s [] h = tt
all_clean s (x ∷ past) h =
    let both = no_parts (map (found_at x.time x.side) (reverse (found_of s past x))) (found_coming s past) h in
    let none = none_reversed (found_of s past x) (none_mapped (found_at x.time x.side) _ both.0) in
    (frame_clean s past x none, all_clean s past both.1)

pub whole_same : (s : Source) (xs : List Came) → AreClean s xs → whole_of xs ≡ xs
unfolding AreClean
whole_same s [] h = refl
whole_same s (x ∷ past) h =
    cond-true (is_whole x) (x ∷ whole_of past) (whole_of past) h.0.whole ∙ ap (λ l. x ∷ l) (whole_same s past h.1)
