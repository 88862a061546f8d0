-- Whole lines of what was read, and how calls of the line reader compose.
use Rattle.std.proofs.Common.{◌≡◌, ℕ, zero, suc, ◌+◌, ◌-◌, ◌<◌, ◌≤◌, Bool, true}
use Rattle.std.proofs.Common.{false, List, [], ◌∷◌, ◌++◌, length, take, refl, ap, sym, ◌∙◌, arith, eqb}
use Rattle.std.proofs.Common.{cond, Option, append_assoc, ◌⊎◌, inl, inr, length-append}
use Rattle.std.specs.List.{count_by, slice_split}
use Rattle.std.specs.Io.KnownBytes.{Consumes}
use Rattle.std.proofs.KnownBytes.{Consumes-nil, Consumes-trans}
use Rattle.std.proofs.lemmas.List.{append-nil}
use Rattle.std.proofs.lemmas.List.Splits.{length-slice_split, slice_split_at, slice_split_none}
use Rattle.std.proofs.lemmas.List.Elements.{All-append}
use Rattle.std.proofs.lemmas.Bool.{eqb-true}
use Rattle.std.proofs.lemmas.List.Sums.{sum_by-append}
use Rattle.afdx_input_lines.specs.Lines.{lines_of, whole_lines_of, WholeLinesAreFirst, but_last}
use Rattle.afdx_input_lines.specs.Lines.{between_feeds, HasNoFeed, HasTaken, TakesBytes, GaveWhole}
use Rattle.afdx_input_lines.proofs.LineLemmas.{lines_of_feed, HasFirst, slice_split-has_first}

but_last-cons : (part : List ℕ) (parts : List (List ℕ)) → HasFirst parts → but_last (part ∷ parts)
    ≡ part ∷ but_last parts
but_last-cons part parts h = rw h.2 refl

-- a line with its line feed is the first whole line
pub whole_lines_of_feed : (line rest : List ℕ) → HasNoFeed line → whole_lines_of (line ++ 10 ∷ rest)
    ≡ line ∷ whole_lines_of rest
unfolding whole_lines_of
whole_lines_of_feed line rest h =
    ap but_last (slice_split_at (λ byte. eqb byte 10) line 10 rest h refl)
    ∙ but_last-cons line (slice_split (λ byte. eqb byte 10) rest) (slice_split-has_first (λ byte. eqb byte 10) rest)

-- bytes with no line feed hold no whole line
pub whole_lines_of_none : (bytes : List ℕ) → HasNoFeed bytes → whole_lines_of bytes ≡ []
unfolding whole_lines_of
whole_lines_of_none bytes h = ap but_last (slice_split_none (λ byte. eqb byte 10) bytes h)

-- bytes up to their first line feed, and after it
pub record HasFeed (bytes : List ℕ) : Type 0 where
  pub line : List ℕ
  pub rest : List ℕ
  pub parts : bytes ≡ line ++ 10 ∷ rest
  pub none : HasNoFeed line

nothing_has_no_feed : HasNoFeed []
nothing_has_no_feed = λ k d h. absurd (omega arith)

one_has_no_feed : (byte : ℕ) → eqb byte 10 ≡ false → HasNoFeed (byte ∷ [])
one_has_no_feed byte e = λ k d h. let first : k ≡ 0 = omega arith in rw first e

first_feed_at : (b : Bool) (byte : ℕ) (bytes : List ℕ) → eqb byte 10 ≡ b → HasNoFeed bytes
    ⊎ HasFeed bytes → HasNoFeed (byte ∷ bytes) ⊎ HasFeed (byte ∷ bytes)
first_feed_at true byte bytes e later =
    inr (record {
      line = [];
      rest = bytes;
      parts = ap (λ (x : ℕ). x ∷ bytes) (eqb-true byte 10 e);
      none = nothing_has_no_feed;
    })
first_feed_at false byte bytes e (inl none) =
    inl (All-append (λ x. eqb x 10 ≡ false) (byte ∷ []) bytes (one_has_no_feed byte e) none)
first_feed_at false byte bytes e (inr feed) = inr (record {
  line = byte ∷ feed.line;
  rest = feed.rest;
  parts = ap (λ xs. byte ∷ xs) feed.parts;
  none = All-append (λ x. eqb x 10 ≡ false) (byte ∷ []) feed.line (one_has_no_feed byte e) feed.none;
})

first_feed_of : (bytes : List ℕ) → HasNoFeed bytes ⊎ HasFeed bytes
first_feed_of [] = inl nothing_has_no_feed
first_feed_of (byte ∷ bytes) = first_feed_at (eqb byte 10) byte bytes refl (first_feed_of bytes)

-- the whole lines of two lists of bytes, where the first has so many
first_lines-by : (n : ℕ) (front rest : List ℕ) → length front ≤ n
    → ((shorter : List ℕ) → length shorter < length front
    → take (length (whole_lines_of shorter)) (lines_of (shorter ++ rest)) ≡ whole_lines_of shorter)
    → HasNoFeed front ⊎ HasFeed front
    → take (length (whole_lines_of front)) (lines_of (front ++ rest)) ≡ whole_lines_of front
first_lines-by n front rest h later (inl none) = rw (whole_lines_of_none front none) refl
first_lines-by n front rest h later (inr feed) =
    let whole : whole_lines_of front ≡ feed.line ∷ whole_lines_of feed.rest =
    ap whole_lines_of feed.parts ∙ whole_lines_of_feed feed.line feed.rest feed.none in
    let all : lines_of (front ++ rest) ≡ feed.line ∷ lines_of (feed.rest ++ rest) =
    ap (λ (bytes : List ℕ). lines_of (bytes ++ rest)) feed.parts
    ∙ ap lines_of (append_assoc feed.line (10 ∷ feed.rest) rest)
    ∙ lines_of_feed feed.line (feed.rest ++ rest) feed.none in
    rw (whole, all) (ap (λ (lines : List (List ℕ)). feed.line ∷ lines)
    (later feed.rest (omega (arith, ap length feed.parts, length-append feed.line (10 ∷ feed.rest)))))

first_lines : (n : ℕ) (front rest : List ℕ) → length front ≤ n
    → take (length (whole_lines_of front)) (lines_of (front ++ rest)) ≡ whole_lines_of front
first_lines zero front rest h =
    first_lines-by zero front rest h (λ shorter lt. absurd (omega arith)) (first_feed_of front)
first_lines (suc n) front rest h =
    first_lines-by (suc n) front rest h (λ shorter lt. first_lines n shorter rest (omega arith))
    (first_feed_of front)

pub whole_lines_are_first : WholeLinesAreFirst
whole_lines_are_first front rest = first_lines (length front) front rest (omega arith)

but_last-length : (parts : List (List ℕ)) → length (but_last parts) ≡ length parts - 1
but_last-length [] = refl
but_last-length (part ∷ []) = refl
but_last-length (part ∷ next ∷ parts) = let later = but_last-length (next ∷ parts) in omega (arith, later)

-- there are as many whole lines as line feeds
whole_lines_of-length : (bytes : List ℕ) → length (whole_lines_of bytes) ≡ count_by (λ byte. eqb byte 10) bytes
unfolding whole_lines_of
whole_lines_of-length bytes = but_last-length (between_feeds bytes)
    ∙ omega (arith, length-slice_split (λ byte. eqb byte 10) bytes)

-- whole lines of bytes that go on
whole_lines_of-append : (a b : List ℕ) → length (whole_lines_of (a ++ b))
    ≡ length (whole_lines_of a) + length (whole_lines_of b)
whole_lines_of-append a b =
    let both = sum_by-append (λ byte. cond (eqb byte 10) 1 0) a b in
    omega (arith, both, whole_lines_of-length a, whole_lines_of-length b, whole_lines_of-length (a ++ b))

-- a reader that has taken nothing
pub HasTaken-start : (known : Option (List ℕ)) (unread : List ℕ) (n : ℕ) → unread ≡ [] → n ≡ 0
    → HasTaken known known unread n
HasTaken-start known unread n nothing none = record {
  read = [];
  consumed = Consumes-nil known;
  counted = rw (nothing, none) (omega arith);
  lines = [];
  many = sym none;
  lines_are = λ more. rw nothing refl;
}

-- lines of what is read, where the input gives more
lines_then : (read unread given taken after more : List ℕ) (lines : List (List ℕ))
    → ((x : List ℕ) → lines_of (read ++ x) ≡ lines ++ lines_of (unread ++ x)) → unread ++ given ≡ taken ++ after
    → lines_of ((read ++ given) ++ more) ≡ lines ++ lines_of (taken ++ (after ++ more))
lines_then read unread given taken after more lines h e =
    ap lines_of (append_assoc read given more) ∙ h (given ++ more)
    ∙ ap (λ (x : List ℕ). lines ++ lines_of x)
    (sym (append_assoc unread given more) ∙ ap (λ (x : List ℕ). x ++ more) e ∙ append_assoc taken after more)

-- a line and its line feed are taken
pub HasTaken-line : (a b c : Option (List ℕ)) (u v line : List ℕ) (n m : ℕ) → m ≡ n + 1
    → HasNoFeed line → HasTaken a b u n → TakesBytes b c u v (line ++ 10 ∷ []) → HasTaken a c v m
HasTaken-line a b c u v line n m next none h takes =
    let given = takes.given in
    let rest : length (whole_lines_of (u ++ given)) ≡ 1 + length (whole_lines_of v) =
    ap (λ (bytes : List ℕ). length (whole_lines_of bytes))
    (takes.parts ∙ append_assoc line (10 ∷ []) v)
    ∙ ap (λ (lines : List (List ℕ)). length lines) (whole_lines_of_feed line v none) ∙ omega arith in
    record {
      read = h.read ++ given;
      consumed = Consumes-trans a b c h.read given h.consumed takes.consumed;
      counted = omega (arith, next, h.counted, rest, whole_lines_of-append h.read given, whole_lines_of-append u given);
      lines = h.lines ++ line ∷ [];
      many = omega (arith, next, h.many, length-append h.lines (line ∷ []));
      lines_are = λ more. lines_then h.read u given (line ++ 10 ∷ []) v more h.lines h.lines_are takes.parts
          ∙ ap (λ (x : List ℕ). h.lines ++ lines_of x) (append_assoc line (10 ∷ []) (v ++ more))
          ∙ ap (λ (x : List (List ℕ)). h.lines ++ x) (lines_of_feed line (v ++ more) none)
          ∙ sym (append_assoc h.lines (line ∷ []) (lines_of (v ++ more)));
    }

-- a line is taken while the input hasn't given its end: what `next_line` ensures, from call to call
pub HasTaken-next : (before after : Bool) (a b c : Option (List ℕ)) (u v line : List ℕ) (n m : ℕ)
    → m ≡ n + 1 → (before ≡ false → HasTaken a b u n)
    → (after ≡ false → (before ≡ false) × HasNoFeed line × TakesBytes b c u v (line ++ 10 ∷ []))
    → after ≡ false → HasTaken a c v m
HasTaken-next before after a b c u v line n m next h takes unended =
    let taken = takes unended in
    HasTaken-line a b c u v line n m next taken.1 (h taken.0) taken.2

-- the input failed: the lines that were taken are the whole lines of what it gave
pub HasTaken-stop : (a b c : Option (List ℕ)) (u v : List ℕ) (n : ℕ) → HasNoFeed v
    → HasTaken a b u n → TakesBytes b c u v [] → GaveWhole a c n
HasTaken-stop a b c u v n none h takes =
    let given = takes.given in
    let rest : length (whole_lines_of (u ++ given)) ≡ 0 =
    ap (λ (bytes : List ℕ). length (whole_lines_of bytes)) takes.parts
    ∙ ap (λ (lines : List (List ℕ)). length lines) (whole_lines_of_none v none) in
    record {
      read = h.read ++ given;
      consumed = Consumes-trans a b c h.read given h.consumed takes.consumed;
      counted = omega (arith, h.counted, rest, whole_lines_of-append h.read given, whole_lines_of-append u given);
    }

-- the lines of all that the input gave, where it gave more and no further line was taken
pub record HasPart (old new : Option (List ℕ)) (unread : List ℕ) (n : ℕ) : Type 0 where
  pub read : List ℕ
  pub consumed : Consumes old new read
  pub lines : List (List ℕ)
  pub many : length lines ≡ n
  pub lines_are : lines_of read ≡ lines ++ lines_of unread

pub HasTaken-part : (a b c : Option (List ℕ)) (u v : List ℕ) (n : ℕ) → HasTaken a b u n
    → TakesBytes b c u v [] → HasPart a c v n
HasTaken-part a b c u v n h takes =
    let all = lines_then h.read u takes.given [] v [] h.lines h.lines_are takes.parts in
    record {
      read = h.read ++ takes.given;
      consumed = Consumes-trans a b c h.read takes.given h.consumed takes.consumed;
      lines = h.lines;
      many = h.many;
      lines_are = ap lines_of (sym (append-nil (h.read ++ takes.given))) ∙ all
          ∙ ap (λ (x : List ℕ). h.lines ++ lines_of x) (append-nil v);
    }
