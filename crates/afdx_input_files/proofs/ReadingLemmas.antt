-- All that a recording says is what stands next, and then what the rest says.
use Rattle.std.proofs.Common.{◌≡◌, Bool, true, false, ℕ, zero, suc, ◌<◌, ◌≤◌}
use Rattle.std.proofs.Common.{List, [], ◌++◌, length, drop, refl, ap, sym, ◌∙◌, arith, subst, Option, Some, None}
use Rattle.std.proofs.lemmas.List.{append-nil, drop-append-le}
use Rattle.std.proofs.lemmas.Grind.{common_steps}
use Rattle.afdx_input_files.specs.declared.form.Form.{Form}
use Rattle.afdx_input_files.specs.declared.form.Form.TheVariants as form
use Rattle.std.proofs.Common.{Result, Ok, Err, ltb}
use Rattle.afdx_input_lines.specs.Calls.{is_read}
use Rattle.afdx_input_lines.specs.declared.fault.RunFault.{RunFault}
use Rattle.afdx_input_lines.specs.declared.next.Next.{Next}
use Rattle.afdx_input_lines.specs.declared.next.Next.TheVariants as next
use Rattle.afdx_input_lines.specs.declared.fault.RunFault.TheVariants as run
use Rattle.afdx_input_lines.specs.declared.recording_fault.RecordingFault.TheVariants.{Ended}
use Rattle.afdx_input_files.specs.Holding.{Standing, Gives, GivesSome, Passes, IsOfReading}
use Rattle.afdx_input_files.specs.Recordings.{State, Step, Ends, Takes, Ending, Over, Faulted, Recording, Numbered}
use Rattle.afdx_input_files.specs.Recordings.{in_front, totals_by}
use Rattle.afdx_input_files.specs.Pcapng.{block_head, block_rest, block_meaning}
use Rattle.afdx_input_files.specs.Pcap.{packet_head, captured_by, packet_meaning}
use Rattle.afdx_input_files.specs.Reading.{step_by, by_step, said_within, blocks_from, recorded_from, recorded_by}
use Rattle.afdx_input_files.specs.Reading.{SaysFirst, SaysSame, SaysEnding, SaysNothing, CanFollow, is_unfinished, Tells}
use Rattle.afdx_input_files.proofs.BlockLemmas.{IsWithin, next_block-within}

step_by-within : (form : Option Form) (state : State) (bytes : List ℕ) → IsWithin bytes (step_by form state bytes)
step_by-within None state bytes = tt
step_by-within (Some (form.Pcap pcap)) state bytes =
    next_block-within packet_head (captured_by state) (packet_meaning pcap state) state.numbers bytes (omega arith)
step_by-within (Some form.Pcapng) state bytes =
    next_block-within block_head (block_rest state) (block_meaning state) state.numbers bytes (omega arith)

by_step-same : (f g : State → List ℕ → Recording) (state : State) (bytes : List ℕ) (step : Step)
    → ((n : ℕ) (after : State) (item : Option Numbered) → step ≡ Takes n after item
    → f after (drop n bytes) ≡ g after (drop n bytes))
    → by_step f state bytes step ≡ by_step g state bytes step
by_step-same f g state bytes (Ends ending) h = refl
by_step-same f g state bytes (Takes n after None) h = h n after None refl
by_step-same f g state bytes (Takes n after (Some item)) h = ap (in_front item) (h n after (Some item) refl)

behind : (bytes : List ℕ) (n : ℕ) → 0 < n → n ≤ length bytes → length (drop n bytes) < length bytes
behind bytes n some within = grind (arith, common_steps)

-- more blocks than there are bytes change nothing
said_within-more : (n m : ℕ) (state : State) (bytes : List ℕ) → length bytes < n → length bytes < m
    → said_within n state bytes ≡ said_within m state bytes
said_within-more zero m state bytes a b = absurd (omega (arith, a))
said_within-more (suc n) zero state bytes a b = absurd (omega (arith, b))
said_within-more (suc n) (suc m) state bytes a b =
    by_step-same (said_within n) (said_within m) state bytes (step_by state.form state bytes)
    (λ k after item e.
    let within = subst (IsWithin bytes) e (step_by-within state.form state bytes) in
    let fewer = behind bytes k within.0 within.1 in
    said_within-more n m after (drop k bytes) (omega (arith, fewer)) (omega (arith, fewer)))

-- what the blocks say is what stands next, and then what the rest says
pub blocks_from-step : (state : State) (bytes : List ℕ)
    → blocks_from state bytes ≡ by_step blocks_from state bytes (step_by state.form state bytes)
unfolding blocks_from
blocks_from-step state bytes =
    by_step-same (said_within (length bytes)) blocks_from state bytes (step_by state.form state bytes)
    (λ k after item e.
    let within = subst (IsWithin bytes) e (step_by-within state.form state bytes) in
    let fewer = behind bytes k within.0 within.1 in
    said_within-more (length bytes) (suc (length (drop k bytes))) after (drop k bytes) fewer (omega arith))

pub recorded_from-blocks : (state : State) (form : Form) (bytes : List ℕ) → state.form ≡ Some form
    → recorded_from state bytes ≡ blocks_from state bytes
unfolding recorded_from
recorded_from-blocks state form bytes h = ap (λ (f : Option Form). recorded_by f state bytes) h

pub recorded_from-step : (state : State) (form : Form) (bytes : List ℕ) → state.form ≡ Some form
    → recorded_from state bytes ≡ by_step blocks_from state bytes (step_by (Some form) state bytes)
recorded_from-step state form bytes h = recorded_from-blocks state form bytes h
    ∙ blocks_from-step state bytes
    ∙ ap (λ (f : Option Form). by_step blocks_from state bytes (step_by f state bytes)) h

-- a block that takes a number was passed
pub SaysFirst-block : (old new : Standing) (before after : State) (form : Form) (item : Numbered) (n : ℕ)
    (given : List ℕ) → before.form ≡ Some form → after.form ≡ Some form → Gives old new given
    → ((more : List ℕ) → step_by (Some form) before ((old.held ++ given) ++ more) ≡ Takes n after (Some item))
    → n ≤ length (old.held ++ given) → new.held ≡ drop n (old.held ++ given)
    → SaysFirst old new before after item
SaysFirst-block old new before after form item n given h k gives takes within rest = record {
  given = given;
  gives = gives;
  says = λ more.
      recorded_from-step before form ((old.held ++ given) ++ more) h
      ∙ ap (by_step blocks_from before ((old.held ++ given) ++ more)) (takes more)
      ∙ ap (λ (bytes : List ℕ). in_front item (blocks_from after bytes))
      (drop-append-le n (old.held ++ given) more within ∙ ap (λ (bytes : List ℕ). bytes ++ more) (sym rest))
      ∙ ap (in_front item) (sym (recorded_from-blocks after form (new.held ++ more) k));
}

-- a block that takes none was passed
pub SaysSame-block : (old new : Standing) (before after : State) (form : Form) (n : ℕ) (given : List ℕ)
    → before.form ≡ Some form → after.form ≡ Some form → Gives old new given
    → ((more : List ℕ) → step_by (Some form) before ((old.held ++ given) ++ more) ≡ Takes n after None)
    → n ≤ length (old.held ++ given) → new.held ≡ drop n (old.held ++ given) → SaysSame old new before after
SaysSame-block old new before after form n given h k gives takes within rest = record {
  given = given;
  gives = gives;
  says = λ more.
      recorded_from-step before form ((old.held ++ given) ++ more) h
      ∙ ap (by_step blocks_from before ((old.held ++ given) ++ more)) (takes more)
      ∙ ap (blocks_from after)
      (drop-append-le n (old.held ++ given) more within ∙ ap (λ (bytes : List ℕ). bytes ++ more) (sym rest))
      ∙ sym (recorded_from-blocks after form (new.held ++ more) k);
}

-- an end stands next
pub SaysEnding-block : (old new : Standing) (before : State) (form : Form) (ending : Ending) (given : List ℕ)
    → before.form ≡ Some form → Gives old new given
    → ((more : List ℕ) → CanFollow new more
    → step_by (Some form) before ((old.held ++ given) ++ more) ≡ Ends ending)
    → SaysEnding old new before ending (totals_by before)
SaysEnding-block old new before form ending given h gives ends = record {
  given = given;
  gives = gives;
  says = λ more follows.
      recorded_from-step before form ((old.held ++ given) ++ more) h
      ∙ ap (by_step blocks_from before ((old.held ++ given) ++ more)) (ends more follows);
}

-- the input gave its end there
pub SaysEnding-here : (old new : Standing) (before : State) (form : Form) (ending : Ending)
    → before.form ≡ Some form → Passes old new [] → new.ended ≡ true
    → step_by (Some form) before new.held ≡ Ends ending
    → SaysEnding old new before ending (totals_by before)
SaysEnding-here old new before form ending h passes ended ends =
    let all : old.held ++ passes.given ≡ new.held = passes.parts in
    SaysEnding-block old new before form ending passes.given h passes.gives
    (λ more follows. rw (all, follows ended, append-nil new.held) ends)

-- as far as was given
pub SaysNothing-block : (old new : Standing) (before : State) (form : Form) (ending : Ending) (given : List ℕ)
    → before.form ≡ Some form → Gives old new given
    → step_by (Some form) before (old.held ++ given) ≡ Ends ending → is_unfinished ending ≡ true
    → SaysNothing old new before
SaysNothing-block old new before form ending given h gives ends unfinished = record {
  given = given;
  gives = gives;
  ending = ending;
  totals = totals_by before;
  says = recorded_from-step before form (old.held ++ given) h
      ∙ ap (by_step blocks_from before (old.held ++ given)) ends;
  unfinished = unfinished;
}

-- a read failed, or there was no memory
pub Tells-of_reading : (fault : RunFault) (old new : Standing) (before after : State) (item : Numbered)
    → IsOfReading fault → GivesSome old new → (is_read fault ≡ true → SaysNothing old new before)
    → Tells (Err fault) old new before after item
Tells-of_reading run.Read old new before after item h some says = says refl
Tells-of_reading run.Memory old new before after item h some says = some
Tells-of_reading (run.BadLine n) old new before after item h some says = absurd h
Tells-of_reading (run.BadHex n) old new before after item h some says = absurd h
Tells-of_reading (run.TimeBack n) old new before after item h some says = absurd h
Tells-of_reading (run.TimeTooLarge n) old new before after item h some says = absurd h
Tells-of_reading (run.BadPort n) old new before after item h some says = absurd h
Tells-of_reading (run.Of n) old new before after item h some says = absurd h
Tells-of_reading (run.LineTooLong n) old new before after item h some says = absurd h
Tells-of_reading run.TooManyLines old new before after item h some says = absurd h
Tells-of_reading (run.Recording f) old new before after item h some says = absurd h
Tells-of_reading run.Write old new before after item h some says = absurd h

-- the input ended between two blocks, or within a head
pub Tells-end : (result : Result Next RunFault) (old new : Standing) (before after : State) (item : Numbered)
    → new.ended ≡ true
    → (length new.held ≡ 0 → result ≡ Ok next.Ended)
    → (0 < length new.held → result ≡ Err (run.Recording (Ended before.numbers)))
    → (length new.held ≡ 0 → SaysEnding old new before Over (totals_by after))
    → (0 < length new.held → SaysEnding old new before (Faulted (Ended before.numbers)) (totals_by before))
    → Tells result old new before after item
Tells-end result old new before after item ended over short says_over says_short = by (ltb 0 (length new.held)) refl
  where
    by : (b : Bool) → ltb 0 (length new.held) ≡ b → Tells result old new before after item
    by true e = let some : 0 < length new.held = grind (arith, e) in
        rw (short some) (totals_by before, says_short some)
    by false e = let none : length new.held ≡ 0 = grind (arith, e) in
        rw (over none) (ended, says_over none)
