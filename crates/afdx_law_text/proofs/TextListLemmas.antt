-- The text of a sender is a list of frames without fault.
use Rattle.std.proofs.Common.{◌≡◌, ℕ, zero, suc, ◌+◌, ◌<◌, ◌≤◌, false, if◌then◌else◌, List, [], ◌∷◌}
use Rattle.std.proofs.Common.{◌++◌, length, Option, Some, None, inl, inr, refl, sym, ap, subst, ◌∙◌}
use Rattle.std.proofs.Common.{arith, nat_le, nat_lt, append_assoc, append-nil, slice_index_or}
use Rattle.std.specs.Prelude.{Ok}
use Rattle.std.specs.Fmt.{decimal}
use Rattle.std.specs.List.{AllByRecursion}
use Rattle.std.proofs.Math.Seq.{get_or-append_seam}
use Rattle.std.proofs.lemmas.Bool.{cases_lt}
use Rattle.std.proofs.lemmas.Bool.Decides.{nat_tests}
use Rattle.std.proofs.lemmas.Fmt.{length-decimal-le}
use Rattle.std.proofs.lemmas.List.{get_or_append_left, length-append}
use Rattle.afdx_frame.specs.declared.link.Side.{Side}
use Rattle.afdx_frame.specs.declared.link.Side.TheVariants.{A, B}
use Rattle.afdx_config.specs.Rows.{SystemRow, LinkRow}
use Rattle.afdx_police.specs.Arrival.{Arrival}
use Rattle.afdx_port.specs.Schedule.{Turn, end_of}
use Rattle.afdx_input_lines.specs.FrameLines.{ListedFrame, line_says}
use Rattle.afdx_input_lines.specs.Lines.{lines_of, most_lines, longest_line}
use Rattle.afdx_input_lines.specs.declared.fault.RunFault.{RunFault}
use Rattle.afdx_input_lines.specs.declared.fault.RunFault.TheVariants as run
use Rattle.afdx_input_lines.proofs.FrameLemmas.{line_says_nothing}
use Rattle.afdx_send.specs.Frames as send
use Rattle.afdx_send.specs.Words.{refusal_word, refusal_words}
use Rattle.afdx_send.specs.declared.fault.SendFault.{SendFault}
use Rattle.afdx_send.specs.declared.fault.SendFault.TheVariants.{NotMyLink, NoSuchSub, Empty}
use Rattle.afdx_send.specs.declared.fault.SendFault.TheVariants.{TooLarge, QueueFull, Memory}
use Rattle.afdx_law_promises.specs.Sent.{frame_on}
use Rattle.afdx_input_sources.specs.Listed.{frames, arrivals_of, AreSound}
use Rattle.afdx_input_sources.specs.Lists.{latest_in, with_item, item_after, items_of, fault_in, fault_said}
use Rattle.afdx_command_tables.specs.sending.Events.{Event, Emitted, Submitted, turns_in, EachFollows}
use Rattle.afdx_command_tables.specs.sending.Text.{send_text}
use Rattle.afdx_law_text.proofs.SendLineLemmas.{no-return, refused, refused-least, line_on, all_lines}
use Rattle.afdx_law_text.proofs.SendLineLemmas.{CanBeRead, IsFine, lines-of-text}
use Rattle.afdx_law_text.proofs.SentLineLemmas.{says-after, short}

-- ---- one line more

items-front : (xs : List (List ℕ)) (line : List ℕ) (n : ℕ) → n ≤ length xs
    → arrivals_of (xs ++ line ∷ []) n ≡ arrivals_of xs n
unfolding items_of
items-front xs line zero le = refl
items-front xs line (suc n) le =
    ap (λ past. with_item frames (suc n)
    (item_after frames past (slice_index_or (xs ++ line ∷ []) n [])) past)
    (items-front xs line n (omega (arith, le)))
    ∙ ap (λ l. with_item frames (suc n) (item_after frames (arrivals_of xs n) l) (arrivals_of xs n))
    (get_or_append_left xs (line ∷ []) [] n (omega (arith, le)))

abbrev fault_by : ℕ → List ℕ → List Arrival → Option RunFault
fault_by n line past =
    if nat_le most_lines n then Some run.TooManyLines
    else if nat_lt longest_line (length line) then Some (run.LineTooLong (n + 1))
    else fault_said (n + 1) (item_after frames past line)

fault-front : (xs : List (List ℕ)) (line : List ℕ) (n : ℕ) → n < length xs
    → fault_in frames (xs ++ line ∷ []) n ≡ fault_in frames xs n
fault-front xs line n lt =
    ap (λ past. fault_by n (slice_index_or (xs ++ line ∷ []) n []) past)
    (items-front xs line n (omega (arith, lt)))
    ∙ ap (λ l. fault_by n l (arrivals_of xs n)) (get_or_append_left xs (line ∷ []) [] n lt)

-- a list without fault, whose last frame has this time
record IsList (xs : List (List ℕ)) (latest : ℕ) : Type 0 where
  sound : AreSound xs (length xs)
  time : latest_in frames (arrivals_of xs (length xs)) ≡ latest

abbrev time_after : Option ListedFrame → ℕ → ℕ
time_after None latest = latest
time_after (Some frame) latest = frame.time

none-yet : IsList [] 0
unfolding items_of
none-yet = record { sound = λ i lt. absurd (omega (arith, lt)); time = refl }

more-length : (xs : List (List ℕ)) (line : List ℕ) → length (xs ++ line ∷ []) ≡ suc (length xs)
more-length xs line = let n = length-append xs (line ∷ []) in omega (arith, n)

module _ (xs : List (List ℕ)) (line : List ℕ) (latest : ℕ) (found : Option ListedFrame)
    (k : IsList xs latest) (few : length xs < most_lines) (small : length line ≤ longest_line)
    (says : line_says latest line ≡ Ok found) where
  here : slice_index_or (xs ++ line ∷ []) (length xs) [] ≡ line
  here = get_or-append_seam xs line [] []

  item : item_after frames (arrivals_of xs (length xs)) line ≡ Ok found
  item = ap (λ time. line_says time line) k.time ∙ says

  fine : fault_in frames (xs ++ line ∷ []) (length xs) ≡ None
  fine =
      let many : nat_le most_lines (length xs) ≡ false = grind (arith, nat_tests, few) in
      let long : nat_lt longest_line (length line) ≡ false = grind (arith, nat_tests, small) in
      ap (λ past. fault_by (length xs) (slice_index_or (xs ++ line ∷ []) (length xs) []) past)
      (items-front xs line (length xs) (omega arith))
      ∙ ap (λ l. fault_by (length xs) l (arrivals_of xs (length xs))) here
      ∙ rw (many, long) (ap (λ r. fault_said {Y = ListedFrame} (length xs + 1) r) item)

  last : arrivals_of (xs ++ line ∷ []) (suc (length xs))
      ≡ with_item frames (suc (length xs)) (Ok found) (arrivals_of xs (length xs))
  unfolding items_of
  last =
      ap (λ past. with_item frames (suc (length xs))
      (item_after frames past (slice_index_or (xs ++ line ∷ []) (length xs) [])) past)
      (items-front xs line (length xs) (omega arith))
      ∙ ap (λ l. with_item frames (suc (length xs))
      (item_after frames (arrivals_of xs (length xs)) l) (arrivals_of xs (length xs))) here
      ∙ ap (λ r. with_item frames (suc (length xs)) r (arrivals_of xs (length xs))) item

  last-time : (o : Option ListedFrame)
      → latest_in frames (with_item frames (suc (length xs)) (Ok o) (arrivals_of xs (length xs)))
      ≡ time_after o latest
  last-time None = k.time
  last-time (Some frame) = refl

  one-more : IsList (xs ++ line ∷ []) (time_after found latest)
  one-more = record {
    sound = λ i lt. elim (cases_lt i (length xs)) [
      | inl old ↦ fault-front xs line i old ∙ k.sound i old
      | inr new ↦ (let n = more-length xs line in let at : length xs ≡ i = omega (arith, n, lt, new)
          in subst (λ (z : ℕ). fault_in frames (xs ++ line ∷ []) z ≡ None) at fine)
    ];
    time = ap (λ n. latest_in frames (arrivals_of (xs ++ line ∷ []) n)) (more-length xs line)
        ∙ ap (latest_in frames) last ∙ last-time found;
  }

-- ---- the lines of events

word-short : (fault : SendFault) → length (refusal_word fault) ≡ 2
unfolding refusal_words
word-short NotMyLink = refl
word-short NoSuchSub = refl
word-short Empty = refl
word-short TooLarge = refl
word-short QueueFull = refl
word-short Memory = refl

refused-short : (n : ℕ) (fault : SendFault) → n ≤ most_lines → length (refused n fault) ≤ longest_line
refused-short n fault few =
    let d = length-decimal-le 7 n (omega arith) (omega (arith, few)) (omega (arith, few)) in
    let a = length-append (decimal n) (32 ∷ refusal_word fault) in
    let w = word-short fault in
    omega (arith, d, a, w)

module _ (s : SystemRow) (links : List LinkRow) (one : 1 ≤ s.port) (most : s.port ≤ 24) where
  turn-more : (xs : List (List ℕ)) (latest : ℕ) (side : Side) (turn : Turn send.Frame)
      → IsList xs latest → length xs < most_lines → latest ≤ turn.end → CanBeRead s turn
      → IsList (xs ++ line_on [] s side turn ∷ []) turn.end
  turn-more xs latest side turn k few late can =
      one-more xs (line_on [] s side turn) latest
      (Some (record {
        time = turn.end;
        side = side;
        port = s.port;
        bytes = frame_on s side turn.entry.item;
      })) k few
      (short side s.port turn.end (frame_on s side turn.entry.item) one most can.early
      (can.frames side)) (says-after side s.port turn.end (frame_on s side turn.entry.item) one
      most can.early (can.frames side) latest late)

  is-list : (events : List Event) → EachFollows s links events → AllByRecursion (IsFine s) events
      → length (all_lines [] s events) ≤ most_lines → IsList (all_lines [] s events) (end_of (turns_in events))
  is-list [] follow all few = none-yet
  is-list (Emitted turn ∷ before) follow all few =
      let n = length-append (all_lines [] s before) (line_on [] s A turn ∷ line_on [] s B turn ∷ []) in
      let rest = is-list before follow.1 all.1 (omega (arith, n, few)) in
      let after = follow.0.next.after in
      let lasts = follow.0.next.lasts in
      let first = turn-more (all_lines [] s before) (end_of (turns_in before)) A turn rest
      (omega (arith, n, few)) (omega (arith, after, lasts)) all.0 in
      let m = more-length (all_lines [] s before) (line_on [] s A turn) in
      let both = turn-more (all_lines [] s before ++ line_on [] s A turn ∷ []) turn.end B turn first
      (omega (arith, n, m, few)) (omega arith) all.0 in
      subst (λ (z : List (List ℕ)). IsList z turn.end)
      (append_assoc (all_lines [] s before) (line_on [] s A turn ∷ []) (line_on [] s B turn ∷ [])) both
  is-list (Submitted x (Some fault) ∷ before) follow all few =
      let n = length-append (all_lines [] s before) (refused x.line fault ∷ []) in
      let rest = is-list before follow.1 all.1 (omega (arith, n, few)) in
      one-more (all_lines [] s before) (refused x.line fault) (end_of (turns_in before)) None rest
      (omega (arith, n, few)) (refused-short x.line fault all.0)
      (line_says_nothing (end_of (turns_in before)) (refused x.line fault) (refused x.line fault)
      (no-return (refused x.line fault) (omega arith) (refused-least x.line fault all.0)) refl)
  is-list (Submitted x None ∷ before) follow all few =
      let same = append-nil (all_lines [] s before) in
      subst (λ (z : List (List ℕ)). IsList z (end_of (turns_in before))) (sym same)
      (is-list before follow.1 all.1 (subst (λ (z : List (List ℕ)). length z ≤ most_lines) same few))

  pub text-is-list : (events : List Event) → EachFollows s links events
      → AllByRecursion (IsFine s) events → length (lines_of (send_text s events)) ≤ most_lines
      → AreSound (lines_of (send_text s events)) (length (lines_of (send_text s events)))
  text-is-list events follow all few =
      let same = lines-of-text [] tt s most events all in
      subst (λ (z : List (List ℕ)). AreSound z (length z)) (sym same)
      (is-list events follow all (subst (λ (z : List (List ℕ)). length z ≤ most_lines) same few)).sound
