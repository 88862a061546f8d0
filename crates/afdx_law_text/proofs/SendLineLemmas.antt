-- The lines of a sender's text, and those at its port.
use Rattle.std.proofs.Common.{◌≡◌, ℕ, ◌-◌, ◌<◌, ◌≤◌, ◌==◌, ◌&&◌, Bool, true, false}
use Rattle.std.proofs.Common.{if◌then◌else◌, List, [], ◌∷◌, ◌++◌, length, filter, Some, None, refl, sym, ap}
use Rattle.std.proofs.Common.{◌∙◌, arith, append_assoc, append-nil}
use Rattle.std.specs.Prelude.{Ok}
use Rattle.std.proofs.lemmas.Grind.{common_steps}
use Rattle.std.proofs.lemmas.List.Elements.{filter-append}
use Rattle.std.specs.Fmt.{decimal}
use Rattle.std.specs.List.{AllByRecursion, slice_index}
use Rattle.std.specs.Str.Lines.{strip_carriage_return}
use Rattle.hex.specs.Hex.{encode_lower}
use Rattle.afdx_frame.specs.Sides.{is_side}
use Rattle.afdx_frame.specs.declared.link.Side.{Side}
use Rattle.afdx_frame.specs.declared.link.Side.TheVariants.{A, B}
use Rattle.afdx_config.specs.Rows.{SystemRow}
use Rattle.afdx_input_lines.specs.FrameLines.{line_says}
use Rattle.afdx_input_lines.specs.Lines.{lines_of, HasNoFeed, most_lines}
use Rattle.afdx_frame.specs.Times.{latest_listed}
use Rattle.afdx_input_lines.proofs.FrameLemmas.{line_says_nothing}
use Rattle.afdx_input_lines.proofs.LineLemmas.{lines_of_feed, lines_of_nothing}
use Rattle.afdx_port.proofs.TurnLemmas.{eqb-same, eqb-other}
use Rattle.afdx_port.specs.Schedule.{Turn}
use Rattle.afdx_send.specs.Frames as send
use Rattle.afdx_send.specs.Words.{refusal_word, refusal_words}
use Rattle.afdx_send.specs.declared.fault.SendFault.{SendFault}
use Rattle.afdx_send.specs.declared.fault.SendFault.TheVariants.{NotMyLink, NoSuchSub, Empty}
use Rattle.afdx_send.specs.declared.fault.SendFault.TheVariants.{TooLarge, QueueFull, Memory}
use Rattle.afdx_law_promises.specs.Sent.{frame_on}
use Rattle.afdx_law_text.specs.EndToEnd.{says_at}
use Rattle.afdx_command_tables.specs.sending.Events.{Event, Emitted, Submitted, turns_in}
use Rattle.afdx_command_tables.specs.sending.Text.{side_text, sent_line, refusal_line, event_lines, send_text_at}
use Rattle.afdx_text.specs.OutLines.{place_text}
use Rattle.afdx_command_tables.proofs.SendLemmas.{text-none, text-more}
use Rattle.afdx_law_text.proofs.SentLineLemmas.{AtLeast, append-least, lower-least, none-below}
use Rattle.afdx_law_text.proofs.SentLineLemmas.{index-least, decimal-least, line_of, line-feed}
use Rattle.afdx_law_text.proofs.SentLineLemmas.{AreOfFrame, line-least, says, side-least}

-- ---- texts of whole lines

-- the text of these lines
abbrev fed : List (List ℕ) → List ℕ
fed [] = []
fed (line ∷ lines) = line ++ 10 ∷ fed lines

fed-append : (xs ys : List (List ℕ)) → fed (xs ++ ys) ≡ fed xs ++ fed ys
fed-append [] ys = refl
fed-append (line ∷ lines) ys = ap (λ (z : List ℕ). line ++ 10 ∷ z) (fed-append lines ys)
    ∙ sym (append_assoc line (10 ∷ fed lines) (fed ys))

lines-of-fed : (lines : List (List ℕ)) → AllByRecursion HasNoFeed lines → lines_of (fed lines) ≡ lines
lines-of-fed [] all = lines_of_nothing
lines-of-fed (line ∷ lines) all = lines_of_feed line (fed lines) all.0
    ∙ ap (λ (z : List (List ℕ)). line ∷ z) (lines-of-fed lines all.1)

all-join : {Y : Type 0} (P : Y → Type 0) (xs ys : List Y) → AllByRecursion P xs
    → AllByRecursion P ys → AllByRecursion P (xs ++ ys)
all-join P [] ys a b = b
all-join P (x ∷ xs) ys a b = (a.0, all-join P xs ys a.1 b)

-- ---- a refusal's line

abbrev pub refused : ℕ → SendFault → List ℕ
refused n fault = 35 ∷ 32 ∷ (decimal n ++ 32 ∷ refusal_word fault)

refused-feed : (n : ℕ) (fault : SendFault) → refused n fault ++ 10 ∷ [] ≡ refusal_line n fault
refused-feed n fault = ap (λ (z : List ℕ). 35 ∷ 32 ∷ z)
    (append_assoc (decimal n) (32 ∷ refusal_word fault) (10 ∷ [])) ∙ grind (arith, common_steps)

word-least : (fault : SendFault) → AtLeast 48 (refusal_word fault)
unfolding refusal_words
word-least NotMyLink = (omega arith, (omega arith, tt))
word-least NoSuchSub = (omega arith, (omega arith, tt))
word-least Empty = (omega arith, (omega arith, tt))
word-least TooLarge = (omega arith, (omega arith, tt))
word-least QueueFull = (omega arith, (omega arith, tt))
word-least Memory = (omega arith, (omega arith, tt))

pub refused-least : (n : ℕ) (fault : SendFault) → n ≤ most_lines → AtLeast 32 (refused n fault)
refused-least n fault few = (
  omega arith,
  (
    omega arith,
    append-least 32 (decimal n) (32 ∷ refusal_word fault)
        (lower-least 32 48 (decimal n) (omega arith) (decimal-least n (omega (arith, few))))
        (omega arith, lower-least 32 48 (refusal_word fault) (omega arith) (word-least fault)),
  ),
)

-- no line that has no byte below a space ends with a carriage return
pub no-return : (line : List ℕ) → 0 < length line → AtLeast 32 line → line ≡ strip_carriage_return line
no-return line some least =
    rw (eqb-other (slice_index line (length line - 1)) 13
    (λ e. (let k = index-least 32 (length line - 1) line (omega (arith, some)) least in
    absurd (omega (arith, e, k))))) refl

refused-says : (n : ℕ) (fault : SendFault) → n ≤ most_lines → line_says 0 (refused n fault) ≡ Ok None
refused-says n fault few =
    line_says_nothing 0 (refused n fault) (refused n fault)
    (no-return (refused n fault) (omega arith) (refused-least n fault few)) refl

-- ---- the lines of events

-- the line of an emission on a side, to the switch of this name, if it has one
abbrev pub line_on : (name : List ℕ) → SystemRow → Side → Turn send.Frame → List ℕ
line_on name s side turn =
    line_of (place_text side name) s.port turn.end (encode_lower (frame_on s side turn.entry.item))

abbrev pub lines_in : (name : List ℕ) → SystemRow → Event → List (List ℕ)
lines_in name s (Emitted turn) = line_on name s A turn ∷ line_on name s B turn ∷ []
lines_in name s (Submitted x (Some fault)) = refused x.line fault ∷ []
lines_in name s (Submitted x None) = []

abbrev pub all_lines : (name : List ℕ) → SystemRow → List Event → List (List ℕ)
all_lines name s [] = []
all_lines name s (e ∷ before) = all_lines name s before ++ lines_in name s e

-- the lines of the emissions on a side
abbrev pub lines_on : (name : List ℕ) → SystemRow → Side → List (Turn send.Frame) → List (List ℕ)
lines_on name s side [] = []
lines_on name s side (turn ∷ earlier) = lines_on name s side earlier ++ line_on name s side turn ∷ []

feed-more : (line : List ℕ) (rest : List ℕ) → line ++ 10 ∷ rest ≡ (line ++ 10 ∷ []) ++ rest
feed-more line rest = sym (append_assoc line (10 ∷ []) rest)

-- an emission whose frames a list can hold
pub record CanBeRead (s : SystemRow) (turn : Turn send.Frame) : Type 0 where
  pub early : turn.end ≤ latest_listed
  pub frames : (side : Side) → AreOfFrame (frame_on s side turn.entry.item)

abbrev pub IsFine : SystemRow → Event → Type 0
IsFine s (Emitted turn) = CanBeRead s turn
IsFine s (Submitted x fault) = x.line ≤ most_lines

pub place-least : (side : Side) (name : List ℕ) → AtLeast 32 name → AtLeast 32 (place_text side name)
place-least side [] least = lower-least 32 48 (side_text side) (omega arith) (side-least side)
place-least A (c ∷ name) least = (omega arith, (omega arith, least))
place-least B (c ∷ name) least = (omega arith, (omega arith, least))

module _ (name : List ℕ) (least : AtLeast 32 name) (s : SystemRow) (most : s.port ≤ 24) where
  event-fed : (e : Event) → fed (lines_in name s e) ≡ event_lines name s e
  event-fed (Emitted turn) =
      feed-more (line_on name s A turn) (fed (line_on name s B turn ∷ []))
      ∙ ap (λ (z : List ℕ). z ++ fed (line_on name s B turn ∷ []))
      (line-feed (place_text A name) s.port turn.end (frame_on s A turn.entry.item))
      ∙ ap (λ (z : List ℕ). sent_line (place_text A name) s.port turn.end (frame_on s A turn.entry.item) ++ z)
      (line-feed (place_text B name) s.port turn.end (frame_on s B turn.entry.item))
  event-fed (Submitted x (Some fault)) = refused-feed x.line fault
  event-fed (Submitted x None) = refl

  text-fed : (events : List Event) → send_text_at name s events ≡ fed (all_lines name s events)
  text-fed [] = text-none name s
  text-fed (e ∷ before) =
      text-more name s e before ∙ ap (λ (z : List ℕ). z ++ event_lines name s e) (text-fed before)
      ∙ ap (λ (z : List ℕ). fed (all_lines name s before) ++ z) (sym (event-fed e))
      ∙ sym (fed-append (all_lines name s before) (lines_in name s e))

  turn-feed : (side : Side) (turn : Turn send.Frame) → CanBeRead s turn → HasNoFeed (line_on name s side turn)
  turn-feed side turn can =
      none-below 32 10 (line_on name s side turn) (omega arith)
      (line-least (place_text side name) s.port turn.end (frame_on s side turn.entry.item)
      (place-least side name least) most can.early (can.frames side))

  event-feed : (e : Event) → IsFine s e → AllByRecursion HasNoFeed (lines_in name s e)
  event-feed (Emitted turn) can = (turn-feed A turn can, (turn-feed B turn can, tt))
  event-feed (Submitted x (Some fault)) few =
      (none-below 32 10 (refused x.line fault) (omega arith) (refused-least x.line fault few), tt)
  event-feed (Submitted x None) few = tt

  no-feed : (events : List Event) → AllByRecursion (IsFine s) events
      → AllByRecursion HasNoFeed (all_lines name s events)
  no-feed [] all = tt
  no-feed (e ∷ before) all =
      all-join HasNoFeed (all_lines name s before) (lines_in name s e) (no-feed before all.1) (event-feed e all.0)

  pub lines-of-text : (events : List Event) → AllByRecursion (IsFine s) events
      → lines_of (send_text_at name s events) ≡ all_lines name s events
  lines-of-text events all = ap lines_of (text-fed events) ∙ lines-of-fed (all_lines name s events) (no-feed events all)

-- ---- those at the system's port, and at others

-- a test whether a line is a frame at a port of a side: it is so of emissions, and not of refusals
pub record Tests (name : List ℕ) (s : SystemRow) (at : Side → ℕ → List ℕ → Bool) : Type 0 where
  pub turn : (side own : Side) (port : ℕ) (turn : Turn send.Frame) → CanBeRead s turn
      → at side port (line_on name s own turn) ≡ (is_side side own && (port == s.port))
  pub refusal : (side : Side) (port n : ℕ) (fault : SendFault) → n ≤ most_lines
      → at side port (refused n fault) ≡ false

and-true : (b : Bool) → (b && true) ≡ b
and-true true = refl
and-true false = refl

and-false : (b : Bool) → (b && false) ≡ false
and-false true = refl
and-false false = refl

module _ (name : List ℕ) (least : AtLeast 32 name) (s : SystemRow) (most : s.port ≤ 24)
    (at : Side → ℕ → List ℕ → Bool) (tests : Tests name s at) where
  turn-test : (side own : Side) (turn : Turn send.Frame) → CanBeRead s turn
      → at side s.port (line_on name s own turn) ≡ is_side side own
  turn-test side own turn can = tests.turn side own s.port turn can
      ∙ ap (λ b. is_side side own && b) (eqb-same s.port s.port refl) ∙ and-true (is_side side own)

  turn-lines : (side : Side) (turn : Turn send.Frame) → CanBeRead s turn
      → filter (at side s.port) (lines_in name s (Emitted turn)) ≡ line_on name s side turn ∷ []
  turn-lines side turn can = rw (turn-test side A turn can, turn-test side B turn can) (by side)
    where
      by : (own : Side) → (if is_side own A then line_on name s A turn
          ∷ (if is_side own B then line_on name s B turn ∷ [] else []) else
          (if is_side own B then line_on name s B turn ∷ [] else [])) ≡ line_on name s own turn ∷ []
      by A = refl
      by B = refl

  event-lines : (side : Side) (e : Event) (before : List Event) → IsFine s e
      → lines_on name s side (turns_in before) ++ filter (at side s.port) (lines_in name s e)
      ≡ lines_on name s side (turns_in (e ∷ before))
  event-lines side (Emitted turn) before can =
      ap (λ (z : List (List ℕ)). lines_on name s side (turns_in before) ++ z) (turn-lines side turn can)
  event-lines side (Submitted x (Some fault)) before few =
      ap (λ b. lines_on name s side (turns_in before) ++ (if b then refused x.line fault ∷ [] else []))
      (tests.refusal side s.port x.line fault few) ∙ append-nil (lines_on name s side (turns_in before))
  event-lines side (Submitted x None) before few = append-nil (lines_on name s side (turns_in before))

  lines-at-port : (side : Side) (events : List Event) → AllByRecursion (IsFine s) events
      → filter (at side s.port) (all_lines name s events) ≡ lines_on name s side (turns_in events)
  lines-at-port side [] all = refl
  lines-at-port side (e ∷ before) all =
      filter-append (at side s.port) (all_lines name s before) (lines_in name s e)
      ∙ ap (λ (z : List (List ℕ)). z ++ filter (at side s.port) (lines_in name s e))
      (lines-at-port side before all.1) ∙ event-lines side e before all.0

  pub text-at-port : (side : Side) (events : List Event) → AllByRecursion (IsFine s) events
      → filter (at side s.port) (lines_of (send_text_at name s events)) ≡ lines_on name s side (turns_in events)
  text-at-port side events all = ap (filter (at side s.port)) (lines-of-text name least s most events all)
      ∙ lines-at-port side events all

  turn-off : (side own : Side) (port : ℕ) (turn : Turn send.Frame) → (port ≡ s.port → ⊥)
      → CanBeRead s turn → at side port (line_on name s own turn) ≡ false
  turn-off side own port turn ne can = tests.turn side own port turn can
      ∙ ap (λ b. is_side side own && b) (eqb-other port s.port ne) ∙ and-false (is_side side own)

  event-off : (side : Side) (port : ℕ) (e : Event) → (port ≡ s.port → ⊥) → IsFine s e
      → filter (at side port) (lines_in name s e) ≡ []
  event-off side port (Emitted turn) ne can =
      rw (turn-off side A port turn ne can, turn-off side B port turn ne can) refl
  event-off side port (Submitted x (Some fault)) ne few =
      ap (λ b. if b then refused x.line fault ∷ [] else []) (tests.refusal side port x.line fault few)
  event-off side port (Submitted x None) ne few = refl

  lines-off : (side : Side) (port : ℕ) (events : List Event) → (port ≡ s.port → ⊥)
      → AllByRecursion (IsFine s) events → filter (at side port) (all_lines name s events) ≡ []
  lines-off side port [] ne all = refl
  lines-off side port (e ∷ before) ne all =
      filter-append (at side port) (all_lines name s before) (lines_in name s e)
      ∙ ap (λ (z : List (List ℕ)). z ++ filter (at side port) (lines_in name s e))
      (lines-off side port before ne all.1) ∙ event-off side port e ne all.0

  pub text-off-port : (side : Side) (port : ℕ) (events : List Event) → (port ≡ s.port → ⊥)
      → AllByRecursion (IsFine s) events → filter (at side port) (lines_of (send_text_at name s events)) ≡ []
  text-off-port side port events ne all = ap (filter (at side port)) (lines-of-text name least s most events all)
      ∙ lines-off side port events ne all

-- ---- where each side has one switch

module _ (s : SystemRow) (one : 1 ≤ s.port) (most : s.port ≤ 24) where
  pub turn-says : (side : Side) (turn : Turn send.Frame) → CanBeRead s turn
      → line_says 0 (line_on [] s side turn)
      ≡ Ok (Some (record {
        time = turn.end;
        side = side;
        port = s.port;
        bytes = frame_on s side turn.entry.item;
      }))
  turn-says side turn can = says side s.port turn.end (frame_on s side turn.entry.item) one most
      can.early (can.frames side)

  pub says-tests : Tests [] s (λ side port line. says_at side port (line_says 0 line))
  says-tests = record {
    turn = λ side own port turn can. ap (says_at side port) (turn-says own turn can);
    refusal = λ side port n fault few. ap (says_at side port) (refused-says n fault few);
  }
