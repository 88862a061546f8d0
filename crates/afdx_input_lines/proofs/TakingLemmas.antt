-- What is taken of what is left and of what the input gave.
use Rattle.std.proofs.Common.{◌≡◌, ℕ, ◌<◌, List, [], ◌∷◌, ◌++◌, length, ap, sym, ◌∙◌, arith, Option}
use Rattle.std.proofs.Common.{Some, None, IfSome, append_assoc}
use Rattle.std.specs.Io.KnownBytes.{prepend_known, IsAtEnd}
use Rattle.std.proofs.KnownBytes.{Consumes-trans}
use Rattle.std.proofs.lemmas.List.{append-nil}
use Rattle.std.proofs.lemmas.Grind.{common_steps}
use Rattle.afdx_input_lines.specs.Lines.{lines_of, HasNoFeed, TakesLine, TakesBytes, BeginsTooLong, longest_line}
use Rattle.afdx_input_lines.proofs.LineLemmas.{lines_of_feed, lines_of_last, lines_of_nothing, lines_of_some, lines_of_front}

-- the input gave more
pub TakesBytes-then : (a b c : Option (List ℕ)) (u v w : List ℕ) → TakesBytes a b u v []
    → TakesBytes b c v w [] → TakesBytes a c u w []
TakesBytes-then a b c u v w first next = record {
  given = first.given ++ next.given;
  consumed = Consumes-trans a b c first.given next.given first.consumed next.consumed;
  parts = sym (append_assoc u first.given next.given)
      ∙ ap (λ (bytes : List ℕ). bytes ++ next.given) first.parts ∙ next.parts;
}

-- some of what is unread is taken
pub TakesBytes-part : (a b : Option (List ℕ)) (u v w taken : List ℕ) → TakesBytes a b u v []
    → v ≡ taken ++ w → TakesBytes a b u w taken
TakesBytes-part a b u v w taken h e = record { given = h.given; consumed = h.consumed; parts = h.parts ∙ e }

-- what was left is what was taken and what is left
pub left_is : (xs ys u v taken given : List ℕ) → xs ≡ given ++ ys → u ++ given ≡ taken ++ v
    → u ++ xs ≡ taken ++ (v ++ ys)
left_is xs ys u v taken given h e = ap (λ (bytes : List ℕ). u ++ bytes) h
    ∙ sym (append_assoc u given ys) ∙ ap (λ (bytes : List ℕ). bytes ++ ys) e ∙ append_assoc taken v ys

-- a line and its line feed were taken
pub TakesLine-feed : (a b : Option (List ℕ)) (u v line : List ℕ) → HasNoFeed line
    → TakesBytes a b u v (line ++ 10 ∷ []) → TakesLine (prepend_known u a) (prepend_known v b) line
TakesLine-feed None b u v line none h = tt
TakesLine-feed (Some xs) None u v line none h = absurd h.consumed
TakesLine-feed (Some xs) (Some ys) u v line none h =
    ap lines_of (left_is xs ys u v (line ++ 10 ∷ []) h.given h.consumed h.parts
    ∙ append_assoc line (10 ∷ []) (v ++ ys)) ∙ lines_of_feed line (v ++ ys) none

-- the last line was taken, which has no line feed
pub TakesLine-last : (a b : Option (List ℕ)) (u v line : List ℕ) → HasNoFeed line → 0 < length line
    → v ≡ [] → IsAtEnd b → TakesBytes a b u v line
    → TakesLine (prepend_known u a) (prepend_known v b) line
TakesLine-last None b u v line none some all end h = tt
TakesLine-last (Some xs) None u v line none some all end h = absurd h.consumed
TakesLine-last (Some xs) (Some ys) u v line none some all end h =
    let nothing : v ++ ys ≡ [] = ap (λ (bytes : List ℕ). bytes ++ ys) all ∙ end in
    ap lines_of (left_is xs ys u v line h.given h.consumed h.parts
    ∙ ap (λ (bytes : List ℕ). line ++ bytes) nothing ∙ append-nil line)
    ∙ lines_of_last line none some
    ∙ ap (λ (lines : List (List ℕ)). line ∷ lines) (sym (ap lines_of nothing ∙ lines_of_nothing))

-- nothing was left where the input gave its end and nothing is unread
pub IsAtEnd-left : (a b : Option (List ℕ)) (u v : List ℕ) → v ≡ [] → IsAtEnd b
    → TakesBytes a b u v [] → IsAtEnd (prepend_known u a)
IsAtEnd-left None b u v all end h = tt
IsAtEnd-left (Some xs) None u v all end h = absurd h.consumed
IsAtEnd-left (Some xs) (Some ys) u v all end h = left_is xs ys u v [] h.given h.consumed h.parts
    ∙ ap (λ (bytes : List ℕ). bytes ++ ys) all ∙ end

-- something is left where something is unread
pub some_line_left : (a b : Option (List ℕ)) (u v : List ℕ) → 0 < length v → TakesBytes a b u v []
    → IfSome (prepend_known u a) (λ bytes. 0 < length (lines_of bytes))
some_line_left None b u v some h = tt
some_line_left (Some xs) None u v some h = absurd h.consumed
some_line_left (Some xs) (Some ys) u v some h =
    let all = left_is xs ys u v [] h.given h.consumed h.parts in
    lines_of_some (u ++ xs) (rw all (grind (arith, common_steps)))

-- the first line is long where it begins with so many bytes
pub long_line_held : (v piece tail : List ℕ) → HasNoFeed piece → longest_line < length piece → v ≡ piece ++ tail
    → BeginsTooLong v
long_line_held v piece tail none long e =
    let front = lines_of_front piece tail none (omega arith) in
    (front.0, front.1, ap lines_of e ∙ front.2, omega (arith, front.3))

pub long_line_left : (a b : Option (List ℕ)) (u v piece tail : List ℕ) → HasNoFeed piece
    → longest_line < length piece → v ≡ piece ++ tail → TakesBytes a b u v []
    → IfSome (prepend_known u a) BeginsTooLong
long_line_left None b u v piece tail none long e h = tt
long_line_left (Some xs) None u v piece tail none long e h = absurd h.consumed
long_line_left (Some xs) (Some ys) u v piece tail none long e h =
    long_line_held (u ++ xs) piece (tail ++ ys) none long
    (left_is xs ys u v [] h.given h.consumed h.parts ∙ ap (λ (bytes : List ℕ). bytes ++ ys) e
    ∙ append_assoc piece tail ys)
