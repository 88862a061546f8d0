-- What comes to a port where no cable is are the frames of the list's lines there.
use Rattle.std.proofs.Common.{◌≡◌, ℕ, ◌==◌, ◌&&◌, Bool, true, false, List, [], ◌∷◌, ◌++◌, filter}
use Rattle.std.proofs.Common.{refl, sym, ap, ◌∙◌, inl, inr}
use Rattle.std.specs.Prelude.{if◌then◌else◌, reverse, Some, None}
use Rattle.std.proofs.lemmas.Bool.{eqb-true}
use Rattle.std.proofs.lemmas.List.{append-nil, reverse-reverse}
use Rattle.afdx_frame.specs.declared.link.Side.{Side}
use Rattle.afdx_police.specs.Arrival.{Arrival, is_side}
use Rattle.afdx_switch.specs.Admitted.{slots}
use Rattle.afdx_network.specs.Events.{Event, Came, Left, Admission, Departure, arrivals_in, admission_after}
use Rattle.afdx_law_promises.specs.Sent.{arrivals_at}
use Rattle.afdx_law_promises.proofs.ListLemmas.{reverse-cons}
use Rattle.afdx_cascade.specs.Parts.{PortsGetTheirLines, frames_of, frames_to}
use Rattle.afdx_cascade.specs.Runs.{Line, IsDue, IsNextEvent, IsNextLine, Runs}
use Rattle.afdx_cascade.specs.SwitchEvents.{Plan, SwitchEvent, at_switch, came_to, in_clock, turns_of}
use Rattle.afdx_cascade.proofs.PartLemmas.{at-port, split-end}

-- ---- one event more

with-turn : (b : Bool) (d : Departure) (es : List Event) → arrivals_in (if b then Left d ∷ es else es) ≡ arrivals_in es
with-turn true d es = refl
with-turn false d es = refl

with-arrival : (b : Bool) (a : Admission) (es : List Event)
    → arrivals_in (if b then Came a ∷ es else es) ≡ (if b then a.arrival ∷ arrivals_in es else arrivals_in es)
with-arrival true a es = refl
with-arrival false a es = refl

-- one that is elsewhere changes nothing
not-there : (side : Side) (port : ℕ) (b : Bool) (x : Arrival) (xs : List Arrival)
    → (b ≡ true → (port == x.port) ≡ false)
    → arrivals_at side port (if b then x ∷ xs else xs) ≡ arrivals_at side port xs
not-there side port false x xs apart = refl
not-there side port true x xs apart =
    ap (λ c. if is_side side x.side && c then x ∷ arrivals_at side port xs else arrivals_at side port xs) (apart refl)
    ∙ none (is_side side x.side)
  where
    none : (a : Bool) → (if a && false then x ∷ arrivals_at side port xs else arrivals_at side port xs)
        ≡ arrivals_at side port xs
    none true = refl
    none false = refl

frames-more : (b : Bool) (line : Line) (lines : List Line)
    → frames_of (if b then line ∷ lines else lines) ≡ (if b then line.arrival ∷ frames_of lines else frames_of lines)
frames-more true line lines = refl
frames-more false line lines = refl

arrivals-more : (side : Side) (port : ℕ) (b : Bool) (x : Arrival) (xs ys : List Arrival)
    → arrivals_at side port xs ≡ arrivals_at side port ys
    → arrivals_at side port (if b then x ∷ xs else xs) ≡ arrivals_at side port (if b then x ∷ ys else ys)
arrivals-more side port false x xs ys same = same
arrivals-more side port true x xs ys same =
    ap (λ zs. if is_side side x.side && (port == x.port) then x ∷ zs else zs) same

-- ---- what comes

module _ (c : Plan) (lines : List Line) (side : Side) (k port : ℕ) (free : c.far_end k port ≡ None) where
  -- some lines were taken, the latest first
  record AreThere (so_far : List SwitchEvent) (rest : List Line) : Type 0 where
    taken : List Line
    are : lines ≡ reverse taken ++ rest
    there : arrivals_at side port (came_to k so_far) ≡ arrivals_at side port (frames_to k taken)

  due-none : (before : List SwitchEvent) (place : List ℕ) (h : SwitchEvent) → IsDue c before place h
      → arrivals_at side port (came_to k (h ∷ before)) ≡ arrivals_at side port (came_to k before)
  due-none before place h (inl turn) =
      ap (λ (g : SwitchEvent). arrivals_at side port
      (arrivals_in (if g.switch == k then g.event ∷ at_switch k before else at_switch k before))) turn.is
      ∙ ap (arrivals_at side port) (with-turn (turn.k == k) _ (at_switch k before))
  due-none before place h (inr frame) =
      ap (λ (g : SwitchEvent). arrivals_at side port
      (arrivals_in (if g.switch == k then g.event ∷ at_switch k before else at_switch k before))) frame.is
      ∙ ap (arrivals_at side port)
      (with-arrival (frame.k == k) (admission_after (c.tables frame.k) (came_to frame.k before) frame.arrival)
      (at_switch k before))
      ∙ not-there side port (frame.k == k) frame.arrival (came_to k before) elsewhere
    where
      at : frame.arrival.port ≡ frame.port
      at = at-port frame.side frame.port
          (slots (in_clock (turns_of frame.other.switch frame.side frame.other.port before)))
          frame.later frame.arrival (arrivals_at frame.side frame.port (came_to frame.k before)) frame.waits

      elsewhere : (frame.k == k) ≡ true → (port == frame.arrival.port) ≡ false
      elsewhere here = by (port == frame.arrival.port) refl
        where
          by : (b : Bool) → (port == frame.arrival.port) ≡ b → b ≡ false
          by false is = refl
          by true is = absurd (
              let port_is : frame.port ≡ port = sym (eqb-true port frame.arrival.port is ∙ at) in
              let cable : c.far_end k port ≡ Some frame.other =
              ap (λ j. c.far_end j port) (sym (eqb-true frame.k k here))
              ∙ ap (c.far_end frame.k) (sym port_is) ∙ frame.joined in
              cc (free, cable))

  line-there : (before : List SwitchEvent) (left rest : List Line) (h : SwitchEvent) → IsNextLine c before left h rest
      → AreThere before left → AreThere (h ∷ before) rest
  line-there before left rest h next some = record {
    taken = next.line ∷ some.taken;
    are = some.are ∙ ap (λ ls. reverse some.taken ++ ls) next.are
        ∙ sym (split-end (reverse some.taken) next.line rest)
        ∙ ap (λ ls. ls ++ rest) (sym (reverse-cons next.line some.taken));
    there =
        ap (λ (g : SwitchEvent). arrivals_at side port
        (arrivals_in (if g.switch == k then g.event ∷ at_switch k before else at_switch k before))) next.is
        ∙ ap (arrivals_at side port) (with-arrival (next.line.switch == k)
        (admission_after (c.tables next.line.switch) (came_to next.line.switch before) next.line.arrival)
        (at_switch k before))
        ∙ arrivals-more side port (next.line.switch == k) next.line.arrival (came_to k before)
        (frames_to k some.taken) some.there
        ∙ ap (arrivals_at side port) (sym (frames-more (next.line.switch == k) next.line
        (filter (λ line. line.switch == k) some.taken)));
  }

  are-there : (so_far : List SwitchEvent) (rest : List Line) → Runs c lines so_far rest → AreThere so_far rest
  are-there [] rest runs = record { taken = []; are = sym runs; there = refl }
  are-there (h ∷ before) rest runs = by runs.2 (are-there before runs.0 runs.1)
    where
      by : IsNextEvent c before runs.0 h rest → AreThere before runs.0 → AreThere (h ∷ before) rest
      by (inl due) some = record {
        taken = some.taken;
        are = some.are ∙ ap (λ ls. reverse some.taken ++ ls) (sym due.1);
        there = due-none before due.0.place h due.0.due ∙ some.there;
      }
      by (inr line) some = line-there before runs.0 rest h line some

pub ports-lines : PortsGetTheirLines
ports-lines c lines events side k port all free =
    let some = are-there c lines side k port free events [] all.runs in
    some.there
    ∙ ap (λ ls. arrivals_at side port (frames_to k ls))
    (sym (reverse-reverse some.taken) ∙ ap reverse (sym (some.are ∙ append-nil (reverse some.taken))))
