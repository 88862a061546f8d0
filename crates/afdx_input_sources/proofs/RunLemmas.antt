-- One line more of a run, whatever kind of list it reads, and where it stops.
use Rattle.std.proofs.Common.{◌≡◌, ℕ, zero, suc, ◌+◌, ◌<◌, ◌≤◌, List, [], ◌∷◌, ◌++◌, length, get_or, drop}
use Rattle.std.proofs.Common.{refl, ap, sym, ◌∙◌, subst, Option, Some, None, Result, Ok, Err}
use Rattle.std.proofs.Common.{IfSome, arith, add-one, below_more, length-append}
use Rattle.std.proofs.Common.{Bool, nat_le, nat_lt, true, false, inl, inr}
use Rattle.std.proofs.Math.Seq.{get_or-append_seam}
use Rattle.std.proofs.lemmas.Grind.{common_steps}
use Rattle.std.specs.Io.KnownBytes.{IsAtEnd, prepend_known}
use Rattle.std.proofs.KnownBytes.{Consumes-nil}
use Rattle.afdx_input_lines.specs.declared.fault.RunFault.{RunFault}
use Rattle.afdx_input_lines.specs.declared.fault.RunFault.TheVariants as run
use Rattle.afdx_input_lines.specs.declared.fault.LineFault.{LineFault}
use Rattle.afdx_input_lines.specs.declared.fault.LineFault.TheVariants as says
use Rattle.afdx_input_lines.specs.declared.fault.LineError.{LineError}
use Rattle.afdx_input_lines.specs.declared.fault.LineError.TheVariants.{Fault, Memory}
use Rattle.afdx_input_lines.specs.Lines.{lines_of, whole_lines_of, TakesLine, CanStop, StopsBy, BeginsTooLong}
use Rattle.afdx_input_lines.specs.Lines.{HasTaken, TakesBytes, GaveWhole, most_lines, longest_line}
use Rattle.afdx_input_lines.proofs.WholeLemmas.{HasTaken-part}
use Rattle.afdx_input_lines.proofs.LineLemmas.{lines_of_nothing}
use Rattle.afdx_input_lines.specs.Faults.{fault_at, fault_of_line, IsErrorOf}
use Rattle.afdx_text.specs.Sinks.{IsOfOutput}
use Rattle.afdx_input_sources.specs.Lists.{Kind, latest_in, with_item, items_of, item_said, fault_in}
use Rattle.afdx_input_sources.specs.Lists.{fault_said, HaveFirstFault}
use Rattle.afdx_input_sources.specs.Causes.{Cause, cause_of, FailedRead, FailedWrite, NoMemory, BadInput}
use Rattle.afdx_input_sources.specs.Stops.{GaveLines, GavePart, GaveFault, IsToldOf, StopsAtFault, StopsAs, StopsIn}
pub use Rattle.afdx_input_sources.specs.ListRun.{IsDone}
use Rattle.afdx_input_sources.specs.Progress.{HasRead, HasComeIn}

items_of_next : {Y X : Type 0} (k : Kind Y X) (lines : List (List ℕ)) (n : ℕ)
    → items_of k lines (n + 1) ≡ with_item k (n + 1) (item_said k lines n) (items_of k lines n)
unfolding items_of
items_of_next k lines n = rw add-one refl

pub items_of-none : {Y X : Type 0} (k : Kind Y X) (lines : List (List ℕ)) → items_of k lines 0 ≡ []
unfolding items_of
items_of-none k lines = refl

-- the element at which a drop begins
drop_begins : (n : ℕ) (xs : List (List ℕ)) (x : List ℕ) (ys : List (List ℕ)) → drop n xs ≡ x ∷ ys
    → (get_or xs n [] ≡ x) × (drop (n + 1) xs ≡ ys) × (n < length xs)
drop_begins n [] x ys h = absurd (grind (arith, common_steps, h))
drop_begins zero (first ∷ xs) x ys h = (cc, cc, omega arith)
drop_begins (suc n) (first ∷ xs) x ys h = let next = drop_begins n xs x ys h in
    (next.0, rw add-one (rw add-one at next.1), omega (arith, next.2))

-- the facts of a taken line
pub record Next (lines : List (List ℕ)) (n : ℕ) (line rest : List ℕ) : Type 0 where
  pub line_is : get_or lines n [] ≡ line
  pub rest_is : lines_of rest ≡ drop (n + 1) lines
  pub within : n + 1 ≤ length lines

next_line_is : (lines : List (List ℕ)) (n : ℕ) (line old rest : List ℕ)
    → lines_of old ≡ drop n lines → lines_of old ≡ line ∷ lines_of rest → Next lines n line rest
next_line_is lines n line old rest h k = let begins = drop_begins n lines line (lines_of rest) (sym h ∙ k) in record {
  line_is = begins.0;
  rest_is = sym begins.1;
  within = omega (arith, begins.2);
}

-- what a line says after the latest time
said_then : {Y X : Type 0} (k : Kind Y X) (lines : List (List ℕ)) (n : ℕ) (line : List ℕ)
    (latest : ℕ) {r : Result (Option Y) LineFault} → get_or lines n [] ≡ line
    → latest ≡ latest_in k (items_of k lines n) → k.says latest line ≡ r → item_said k lines n ≡ r
said_then k lines n line latest same is said =
    let at_line = ap (λ (l : List ℕ). k.says (latest_in k (items_of k lines n)) l) same in
    let at_time = ap (λ (z : ℕ). k.says z line) (sym is) in
    at_line ∙ at_time ∙ said

-- a line that may be taken: it is short, and not one too many
pub record IsTaken (n : ℕ) (line : List ℕ) (before rest : Option (List ℕ)) : Type 0 where
  pub few : n < most_lines
  pub short : length line ≤ longest_line
  pub takes : TakesLine before rest line

drop_nothing : (n : ℕ) (xs : List (List ℕ)) → drop n xs ≡ [] → n ≤ length xs → n ≡ length xs
drop_nothing n xs h within = let e : length (drop n xs) ≡ 0 = ap length h in grind (arith, common_steps, e)

more_left : (n : ℕ) (lines : List (List ℕ)) → 0 < length (drop n lines) → n < length lines
more_left n lines h = grind (arith, common_steps)

module _ {Y X : Type 0} (k : Kind Y X) where
  -- a line of lawful place and length has the fault that it says
  fault_at_line : (lines : List (List ℕ)) (n : ℕ) (line : List ℕ) → n < most_lines
      → get_or lines n [] ≡ line → length line ≤ longest_line
      → fault_in k lines n ≡ fault_said (n + 1) (item_said k lines n)
  fault_at_line lines n line few same short =
      let place : nat_le most_lines n ≡ false = grind (arith, common_steps) in
      let size : nat_lt longest_line (length (get_or lines n [])) ≡ false = rw same (grind (arith, common_steps)) in
      rw (place, size) refl

  -- a line was read that says this, or nothing
  HasRead-next : (past : List X) (latest later n : ℕ) (lines : List (List ℕ)) (old_rest rest line : List ℕ)
      (y : Option Y) → n < most_lines → length line ≤ longest_line → HasRead k past latest n lines old_rest
      → lines_of old_rest ≡ line ∷ lines_of rest → k.says latest line ≡ Ok y
      → later ≡ latest_in k (with_item k (n + 1) (Ok y) past)
      → HasRead k (with_item k (n + 1) (Ok y) past) later (n + 1) lines rest
  HasRead-next past latest later n lines old_rest rest line y few short h takes said later_is =
      let next = next_line_is lines n line old_rest rest h.rest_is takes in
      let says : item_said k lines n ≡ Ok y =
      said_then k lines n line latest next.line_is (h.latest_is ∙ ap (latest_in k) (sym h.said)) said in
      record {
        within = next.within;
        rest_is = next.rest_is;
        sound = below_more (λ i. fault_in k lines i ≡ None) n h.sound
            (fault_at_line lines n line few next.line_is short ∙ ap (fault_said (n + 1)) says);
        latest_is = later_is;
        said = items_of_next k lines n ∙ ap (λ r. with_item k (n + 1) r (items_of k lines n)) says
            ∙ ap (with_item k (n + 1) (Ok y)) h.said;
      }

  pub HasCome-start : (n : ℕ) (unread : List ℕ) (input : Option (List ℕ))
      → n ≡ 0 → unread ≡ [] → HasComeIn k [] 0 n input (prepend_known unread input)
  HasCome-start n unread None begun empty = tt
  HasCome-start n unread (Some bytes) begun empty =
      rw (begun, empty) (record {
        within = omega arith;
        rest_is = grind (arith, common_steps);
        sound = λ i lt. absurd (omega arith);
        latest_is = refl;
        said = items_of-none k (lines_of bytes);
      })

  pub HasCome-next : (past : List X) (latest later n m : ℕ) (input before rest : Option (List ℕ))
      (line : List ℕ) (y : Option Y) → m ≡ n + 1 → IsTaken n line before rest
      → HasComeIn k past latest n input before → k.says latest line ≡ Ok y
      → later ≡ latest_in k (with_item k m (Ok y) past)
      → HasComeIn k (with_item k m (Ok y) past) later m input rest
  HasCome-next past latest later n m None before rest line y place taken h said later_is = tt
  HasCome-next past latest later n m (Some bytes) None rest line y place taken h said later_is = absurd h
  HasCome-next past latest later n m (Some bytes) (Some before) None line y place taken h said later_is =
      absurd taken.takes
  HasCome-next past latest later n m (Some bytes) (Some before) (Some rest) line y place taken h said later_is =
      let next = HasRead-next past latest later n (lines_of bytes) before rest line y taken.few taken.short h
      taken.takes said (later_is ∙ ap (λ (i : ℕ). latest_in k (with_item k i (Ok y) past)) place) in
      subst (λ (i : ℕ). HasRead k (with_item k i (Ok y) past) later i (lines_of bytes) rest) (sym place) next

pub HasCome-done : {Y X : Type 0} (k : Kind Y X) (told : List X → Type 0) (past : List X) (latest n : ℕ)
    (input rest : Option (List ℕ)) → HasComeIn k past latest n input rest → IsAtEnd rest → told past
    → IfSome input (λ bytes. IsDone k told n (lines_of bytes))
HasCome-done k told past latest n None rest h end t = tt
HasCome-done k told past latest n (Some bytes) None h end t = absurd h
HasCome-done k told past latest n (Some bytes) (Some rest) h end t =
    let all : n ≡ length (lines_of bytes) =
    drop_nothing n (lines_of bytes) (sym h.rest_is ∙ ap lines_of end ∙ lines_of_nothing) h.within in
    record {
      all = all;
      sound = rw (← all) h.sound;
      are_told = rw (← all) (subst told (sym h.said) t);
    }

-- ---- what was read

-- n lines were taken: all of these were read
pub GaveLines-taken : (ended : Bool) (input after : Option (List ℕ)) (unread : List ℕ) (n : ℕ) →
    (ended ≡ false → HasTaken input after unread n) → (ended ≡ true → IsAtEnd after) → GaveLines input after n
unfolding GaveLines
GaveLines-taken true input after unread n taken honest = inl (honest refl)
GaveLines-taken false input after unread n taken honest =
    let h = taken refl in
    inr (
      length (whole_lines_of h.read),
      omega (arith, h.counted),
      record { read = h.read; consumed = h.consumed; counted = refl },
    )

-- the input gave its end
pub GaveLines-end : (input after : Option (List ℕ)) (n : ℕ) → IsAtEnd after → GaveLines input after n
unfolding GaveLines
GaveLines-end input after n end = inl end

-- so were fewer
pub GaveLines-less : (input after : Option (List ℕ)) (n m : ℕ) → m ≤ n → GaveLines input after n
    → GaveLines input after m
unfolding GaveLines
GaveLines-less input after n m less (inl end) = inl end
GaveLines-less input after n m less (inr gave) = inr (gave.0, omega (arith, less, gave.1), gave.2)

-- of no line anything was read
pub GaveLines-start : (input : Option (List ℕ)) → GaveLines input input 0
unfolding GaveLines whole_lines_of
GaveLines-start input =
    inr (0, omega arith, record { read = []; consumed = Consumes-nil input; counted = refl })

-- of a line that is not taken this was read
pub GavePart-shown : (ended : Bool) (a b c : Option (List ℕ)) (u v : List ℕ) (n : ℕ)
    (holds : List (List ℕ) → Type 0) → (ended ≡ false → HasTaken a b u n) → (ended ≡ true → IsAtEnd c)
    → TakesBytes b c u v []
    → ((lines : List (List ℕ)) → length lines ≡ n → holds (lines ++ lines_of v)) → GavePart a c holds
unfolding GavePart
GavePart-shown true a b c u v n holds taken honest takes show = inl (honest refl)
GavePart-shown false a b c u v n holds taken honest takes show =
    let part = HasTaken-part a b c u v n (taken refl) takes in
    inr (part.read, part.consumed, subst holds (sym part.lines_are) (show part.lines part.many))

-- a line that is too long stands behind the lines that were taken
long_behind : (lines : List (List ℕ)) (n : ℕ) (bytes : List ℕ) → length lines ≡ n → BeginsTooLong bytes
    → longest_line < length (get_or (lines ++ lines_of bytes) n [])
long_behind lines n bytes many (line, rest, is, long) =
    let at_end : get_or (lines ++ lines_of bytes) n [] ≡ line =
    ap (λ (i : ℕ). get_or (lines ++ lines_of bytes) i []) (sym many)
    ∙ ap (λ (xs : List (List ℕ)). get_or (lines ++ xs) (length lines) []) is
    ∙ get_or-append_seam lines line rest [] in
    rw at_end long

-- ---- where a run stops

-- memory ran out before anything was read
pub stops-at-start : {Y X : Type 0} (k : Kind Y X) (all beginning : List X → Type 0)
    (input : Option (List ℕ)) → beginning [] →
    IfSome input (λ bytes. StopsIn k all beginning bytes input run.Memory)
stops-at-start k all beginning None start = tt
stops-at-start k all beginning (Some bytes) start = (
  0,
  GaveLines-start (Some bytes),
  record {
    within = omega arith;
    sound = λ i lt. absurd (omega arith);
    are_told = rw (items_of-none k (lines_of bytes)) start;
  },
)

module _ {Y X : Type 0} (k : Kind Y X) where
  module _ (all beginning : List X → Type 0) (bytes : List ℕ) (rest : Option (List ℕ)) where
    pub stops-output : (fault : RunFault) → IsOfOutput fault
        → (n : ℕ) × GaveLines (Some bytes) rest n × IsToldOf k beginning (lines_of bytes) n
        → StopsIn k all beginning bytes rest fault
    stops-output fault (inl e) h = rw e h
    stops-output fault (inr e) h = rw e h

    pub stops-said : (m : ℕ) (fault : LineFault) → StopsAtFault k all bytes rest (fault_of_line m fault)
        → StopsIn k all beginning bytes rest (fault_of_line m fault)
    stops-said m says.BadLine h = h
    stops-said m says.BadHex h = h
    stops-said m says.TimeBack h = h
    stops-said m says.TimeTooLarge h = h
    stops-said m says.BadPort h = h

  -- more may be said of a stop
  module _ (all beginning all' beginning' : List X → Type 0) (bytes : List ℕ) (rest : Option (List ℕ))
      (f : (n : ℕ) → all (items_of k (lines_of bytes) n) → all' (items_of k (lines_of bytes) n))
      (g : (n : ℕ) → beginning (items_of k (lines_of bytes) n) → beginning' (items_of k (lines_of bytes) n)) where
    part-more : {told told' : List X → Type 0} (n : ℕ)
        → (told (items_of k (lines_of bytes) n) → told' (items_of k (lines_of bytes) n))
        → IsToldOf k told (lines_of bytes) n → IsToldOf k told' (lines_of bytes) n
    part-more n more h = record { within = h.within; sound = h.sound; are_told = more h.are_told }

    more-by : (fault : RunFault) (cause : Cause) → StopsAs k all beginning bytes rest fault cause
        → StopsAs k all' beginning' bytes rest fault cause
    more-by fault FailedRead (n, gave, told) = (n, gave, part-more n (f n) told)
    more-by fault FailedWrite (n, gave, told) = (n, gave, part-more n (g n) told)
    more-by fault NoMemory (n, gave, told) = (n, gave, part-more n (g n) told)
    more-by fault BadInput h = record { line = h.line; read = h.read; first = h.first; are_told = f h.line h.are_told }

    pub stops-more : (fault : RunFault) → StopsIn k all beginning bytes rest fault
        → StopsIn k all' beginning' bytes rest fault
    stops-more fault h = more-by fault (cause_of fault) h

  -- ---- a run that has read these things

  module _ (past : List X) (latest n : ℕ) where
    -- of all that was read this is told
    told_so_far : (told : List X → Type 0) (bytes rest : List ℕ) → HasRead k past latest n (lines_of bytes) rest
        → told past → IsToldOf k told (lines_of bytes) n
    told_so_far told bytes rest h t = record {
      within = h.within;
      sound = h.sound;
      are_told = subst told (sym h.said) t;
    }

    -- a line can't be read
    first_fault : (lines : List (List ℕ)) (old_rest rest line : List ℕ) (fault : LineFault) → n < most_lines
        → length line ≤ longest_line → HasRead k past latest n lines old_rest
        → lines_of old_rest ≡ line ∷ lines_of rest → k.says latest line ≡ Err fault
        → HaveFirstFault k lines n (fault_of_line (n + 1) fault)
    first_fault lines old_rest rest line fault few short h takes said =
        let next = next_line_is lines n line old_rest rest h.rest_is takes in
        let says : item_said k lines n ≡ Err fault =
        said_then k lines n line latest next.line_is (h.latest_is ∙ ap (latest_in k) (sym h.said)) said in (
          omega (arith, next.within),
          h.sound,
          fault_at_line k lines n line few next.line_is short ∙ ap (fault_said (n + 1)) says,
        )

    gave_line : (input after : Option (List ℕ)) (m : ℕ) (fault : LineFault) → GaveLines input after (n + 1)
        → GaveFault input after n (fault_of_line m fault)
    gave_line input after m says.BadLine gave = gave
    gave_line input after m says.BadHex gave = gave
    gave_line input after m says.TimeBack gave = gave
    gave_line input after m says.TimeTooLarge gave = gave
    gave_line input after m says.BadPort gave = gave

    pub stops-line : (all beginning : List X → Type 0) (input before rest after : Option (List ℕ))
        (line : List ℕ) (error : LineError) → IsErrorOf (k.says latest line) error → IsTaken n line before rest
        → HasComeIn k past latest n input before → GaveLines input after (n + 1) → all past → beginning past
        → IfSome input (λ bytes. StopsIn k all beginning bytes after (fault_at (n + 1) error))
    stops-line all beginning None before rest after line error said taken h gave a b = tt
    stops-line all beginning (Some bytes) None rest after line error said taken h gave a b = absurd h
    stops-line all beginning (Some bytes) (Some before) None after line error said taken h gave a b =
        absurd taken.takes
    stops-line all beginning (Some bytes) (Some before) (Some rest) after line Memory said taken h gave a b =
        (n, GaveLines-less _ _ (n + 1) n (omega arith) gave, told_so_far beginning bytes before h b)
    stops-line all beginning (Some bytes) (Some before) (Some rest) after line (Fault fault) said taken h gave a b =
        stops-said all beginning bytes after (n + 1) fault (record {
          line = n;
          read = gave_line (Some bytes) after (n + 1) fault gave;
          first = first_fault (lines_of bytes) before rest line fault taken.few taken.short h taken.takes said;
          are_told = subst all (sym h.said) a;
        })

    -- no further line could be taken
    stop_answers : (all beginning : List X → Type 0) (bytes rest : List ℕ) (between after : Option (List ℕ))
        (old_ended new_ended : Bool) (u v : List ℕ) (fault : RunFault) → HasRead k past latest n (lines_of bytes) rest
        → CanStop fault n (Some rest) → (fault ≡ run.Read → GaveWhole (Some bytes) after n)
        → (old_ended ≡ false → HasTaken (Some bytes) between u n) → (new_ended ≡ true → IsAtEnd after)
        → StopsBy fault old_ended new_ended between after u v → all past
        → StopsIn k all beginning bytes after fault
    stop_answers all beginning bytes rest between after oe ne u v run.TooManyLines h stop gave taken honest by a =
        let place : nat_le most_lines n ≡ true = grind (arith, common_steps, stop.0) in record {
          line = n;
          read = GavePart-shown ne (Some bytes) between after u v n (λ lines. n < length lines)
              (λ e. taken (sym by.0 ∙ e)) honest by.1
              (λ lines many. omega (arith, many, length-append lines (lines_of v), by.2));
          first = (more_left n (lines_of bytes) (rw (← h.rest_is) stop.1), h.sound, rw place refl);
          are_told = subst all (sym h.said) a;
        }
    stop_answers all beginning bytes rest between after oe ne u v (run.LineTooLong m) h stop gave taken honest by a =
        let line = stop.2 in
        let begins = drop_begins n (lines_of bytes) line.0 line.1 (sym h.rest_is ∙ line.2) in
        let place : nat_le most_lines n ≡ false = grind (arith, common_steps, stop.1) in
        let size : nat_lt longest_line (length (get_or (lines_of bytes) n [])) ≡ true =
        rw begins.0 (grind (arith, common_steps, line.3)) in record {
          line = n;
          read = GavePart-shown ne (Some bytes) between after u v n
              (λ lines. longest_line < length (get_or lines n [])) (λ e. taken (sym by.0 ∙ e)) honest by.1
              (λ lines many. long_behind lines n v many by.2);
          first = (begins.2, h.sound, rw (place, size, stop.0) refl);
          are_told = subst all (sym h.said) a;
        }
    stop_answers all beginning bytes rest between after oe ne u v run.Read h stop gave taken honest by a =
        (n, gave refl, told_so_far all bytes rest h a)
    stop_answers _ _ _ _ _ _ _ _ _ _ run.Memory _ stop _ _ _ _ _ = absurd stop
    stop_answers _ _ _ _ _ _ _ _ _ _ run.Write _ stop _ _ _ _ _ = absurd stop
    stop_answers _ _ _ _ _ _ _ _ _ _ (run.BadLine m) _ stop _ _ _ _ _ = absurd stop
    stop_answers _ _ _ _ _ _ _ _ _ _ (run.BadHex m) _ stop _ _ _ _ _ = absurd stop
    stop_answers _ _ _ _ _ _ _ _ _ _ (run.TimeBack m) _ stop _ _ _ _ _ = absurd stop
    stop_answers _ _ _ _ _ _ _ _ _ _ (run.TimeTooLarge m) _ stop _ _ _ _ _ = absurd stop
    stop_answers _ _ _ _ _ _ _ _ _ _ (run.BadPort m) _ stop _ _ _ _ _ = absurd stop
    stop_answers _ _ _ _ _ _ _ _ _ _ (run.Of m) _ stop _ _ _ _ _ = absurd stop
    stop_answers _ _ _ _ _ _ _ _ _ _ (run.Recording f) _ stop _ _ _ _ _ = absurd stop

    pub stops-reader : (all beginning : List X → Type 0) (input left between after : Option (List ℕ))
        (old_ended new_ended : Bool) (u v : List ℕ) (fault : RunFault) → HasComeIn k past latest n input left
        → CanStop fault n left → (fault ≡ run.Read → GaveWhole input after n)
        → (old_ended ≡ false → HasTaken input between u n) → (new_ended ≡ true → IsAtEnd after)
        → StopsBy fault old_ended new_ended between after u v → all past
        → IfSome input (λ bytes. StopsIn k all beginning bytes after fault)
    stops-reader all beginning None left between after oe ne u v fault h stop gave taken honest by a = tt
    stops-reader all beginning (Some bytes) None between after oe ne u v fault h stop gave taken honest by a = absurd h
    stops-reader all beginning (Some bytes) (Some rest) between after oe ne u v fault h stop gave taken honest by a =
        stop_answers all beginning bytes rest between after oe ne u v fault h stop gave taken honest by a
