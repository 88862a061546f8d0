-- How a recording begins, by what is held.
use Rattle.std.proofs.Common.{◌≡◌, ℕ, ◌<◌, ◌≤◌, Bool, true, false, List, [], ◌++◌, length, drop}
use Rattle.std.proofs.Common.{refl, ap, sym, ◌∙◌, arith, Option, Some, None, Ok, Err, Result, append_assoc}
use Rattle.std.proofs.lemmas.List.{append-nil, drop-append-le}
use Rattle.std.proofs.lemmas.Grind.{common_steps}
use Rattle.afdx_input_lines.specs.declared.fault.RunFault.{RunFault}
use Rattle.afdx_input_lines.specs.declared.next.Next.{Next}
use Rattle.afdx_input_lines.specs.declared.next.Next.TheVariants as next
use Rattle.afdx_input_lines.specs.declared.fault.RunFault.TheVariants as run
use Rattle.afdx_input_lines.specs.declared.recording_fault.RecordingFault.{RecordingFault}
use Rattle.afdx_input_lines.specs.declared.recording_fault.RecordingFault.TheVariants.{NotRecording, BadVersion, Ended, Packed}
use Rattle.afdx_input_files.specs.declared.form.Form.{Form}
use Rattle.afdx_input_files.specs.declared.form.Form.TheVariants as form
use Rattle.afdx_input_files.specs.declared.form.Magic.TheVariants as magic
use Rattle.afdx_input_files.specs.declared.order.Order.{Order}
use Rattle.afdx_input_files.specs.declared.order.Order.TheVariants.{LowFirst, HighFirst}
use Rattle.afdx_input_files.specs.Orders.{number_in}
use Rattle.afdx_input_files.specs.Holding.{Standing, Passes}
use Rattle.afdx_input_files.specs.Recordings.{State, Ending, Over, Faulted, Numbered, Totals, totals_by}
use Rattle.afdx_input_files.specs.Pcap.{pcap_form, is_pcap_version}
use Rattle.afdx_input_files.specs.Reading.{magic_of, Opening, Refused, Opens, opening, from_opening, blocks_from}
use Rattle.afdx_input_files.specs.Reading.{recorded_from, recorded_by, SaysFirst, SaysSame, SaysEnding, SaysNothing, CanFollow, Tells, is_unfinished}
use Rattle.afdx_input_files.proofs.OrderLemmas.{number_in-append, number_at-append}
use Rattle.afdx_input_files.proofs.HeldLemmas.{Gives-then, Gives-same}
use Rattle.afdx_input_files.proofs.BlockLemmas.{not_less, less}
use Rattle.afdx_input_files.proofs.ReadingLemmas.{recorded_from-blocks}

pub recorded_from-opening : (state : State) (bytes : List ℕ) → state.form ≡ None
    → recorded_from state bytes ≡ from_opening (opening bytes) state bytes
unfolding recorded_from
recorded_from-opening state bytes h = ap (λ (f : Option Form). recorded_by f state bytes) h

opening-short : (xs : List ℕ) → length xs < 4 → opening xs ≡ Refused (NotRecording 0)
unfolding opening
opening-short xs few = rw (less (length xs) 4 few) refl

longer : (n : ℕ) (xs more : List ℕ) → n ≤ length xs → n ≤ length (xs ++ more)
longer n xs more h = grind (arith, common_steps)

opening-unknown : (xs more : List ℕ) → 4 ≤ length xs → magic_of (number_in HighFirst 4 xs) ≡ None
    → opening (xs ++ more) ≡ Refused (NotRecording 0)
unfolding opening
opening-unknown xs more within unknown = rw (
  not_less (length (xs ++ more)) 4 (longer 4 xs more within),
  number_in-append HighFirst 4 xs more within,
  unknown,
) refl

opening-packed : (xs more : List ℕ) → 4 ≤ length xs
    → magic_of (number_in HighFirst 4 xs) ≡ Some magic.Packed → opening (xs ++ more) ≡ Refused Packed
unfolding opening
opening-packed xs more within known = rw (
  not_less (length (xs ++ more)) 4 (longer 4 xs more within),
  number_in-append HighFirst 4 xs more within,
  known,
) refl

opening-cut : (xs : List ℕ) (order : Order) (nanoseconds : Bool) → 4 ≤ length xs
    → magic_of (number_in HighFirst 4 xs) ≡ Some (magic.Pcap order nanoseconds) → length xs < 24
    → opening xs ≡ Refused (Ended 0)
unfolding opening
opening-cut xs order nanoseconds within known few =
    rw (not_less (length xs) 4 within, known, less (length xs) 24 few) refl

is_pcap_version-append : (order : Order) (xs more : List ℕ) → 24 ≤ length xs
    → is_pcap_version order (xs ++ more) ≡ is_pcap_version order xs
unfolding is_pcap_version
is_pcap_version-append order xs more within = rw (
  number_at-append order 2 4 xs more (omega arith),
  number_at-append order 2 6 xs more (omega arith),
) refl

pcap_form-append : (order : Order) (nanoseconds : Bool) (xs more : List ℕ) → 24 ≤ length xs
    → pcap_form order nanoseconds (xs ++ more) ≡ pcap_form order nanoseconds xs
unfolding pcap_form
pcap_form-append order nanoseconds xs more within = rw (number_at-append order 4 20 xs more (omega arith)) refl

opening-version : (xs more : List ℕ) (order : Order) (nanoseconds : Bool) → 24 ≤ length xs
    → magic_of (number_in HighFirst 4 xs) ≡ Some (magic.Pcap order nanoseconds)
    → is_pcap_version order xs ≡ false → opening (xs ++ more) ≡ Refused (BadVersion 0)
unfolding opening
opening-version xs more order nanoseconds within known other = rw (
  not_less (length (xs ++ more)) 4 (longer 4 xs more (omega arith)),
  number_in-append HighFirst 4 xs more (omega arith),
  known,
  not_less (length (xs ++ more)) 24 (longer 24 xs more within),
  is_pcap_version-append order xs more within,
  other,
) refl

opening-opens : (xs more : List ℕ) (order : Order) (nanoseconds : Bool) → 24 ≤ length xs
    → magic_of (number_in HighFirst 4 xs) ≡ Some (magic.Pcap order nanoseconds)
    → is_pcap_version order xs ≡ true
    → opening (xs ++ more) ≡ Opens (form.Pcap (pcap_form order nanoseconds xs)) order 24
unfolding opening
opening-opens xs more order nanoseconds within known same = rw (
  not_less (length (xs ++ more)) 4 (longer 4 xs more (omega arith)),
  number_in-append HighFirst 4 xs more (omega arith),
  known,
  not_less (length (xs ++ more)) 24 (longer 24 xs more within),
  is_pcap_version-append order xs more within,
  same,
  pcap_form-append order nanoseconds xs more within,
) refl

-- it is refused, whatever can follow
SaysEnding-refused : (old new : Standing) (before : State) (fault : RecordingFault) → before.form ≡ None
    → (passes : Passes old new [])
    → ((more : List ℕ) → CanFollow new more → opening (new.held ++ more) ≡ Refused fault)
    → SaysEnding old new before (Faulted fault) (totals_by before)
SaysEnding-refused old new before fault h passes refused = record {
  given = passes.given;
  gives = passes.gives;
  says = λ more follows.
      let all : old.held ++ passes.given ≡ new.held = passes.parts in
      rw all (recorded_from-opening before (new.held ++ more) h
      ∙ ap (λ (o : Opening). from_opening o before (new.held ++ more)) (refused more follows));
}

SaysNothing-refused : (old new : Standing) (before : State) (fault : RecordingFault) → before.form ≡ None
    → (passes : Passes old new []) → opening new.held ≡ Refused fault → is_unfinished (Faulted fault) ≡ true
    → SaysNothing old new before
SaysNothing-refused old new before fault h passes refused unfinished = record {
  given = passes.given;
  gives = passes.gives;
  ending = Faulted fault;
  totals = totals_by before;
  says = let all : old.held ++ passes.given ≡ new.held = passes.parts in
      rw all (recorded_from-opening before new.held h
      ∙ ap (λ (o : Opening). from_opening o before new.held) refused);
  unfinished = unfinished;
}

pub SaysEnding-too_short : (old new : Standing) (before : State) → before.form ≡ None → Passes old new []
    → new.ended ≡ true → length new.held < 4
    → SaysEnding old new before (Faulted (NotRecording 0)) (totals_by before)
SaysEnding-too_short old new before h passes ended few =
    SaysEnding-refused old new before (NotRecording 0) h passes
    (λ more follows. rw (follows ended, append-nil new.held) (opening-short new.held few))

pub SaysNothing-too_short : (old new : Standing) (before : State) → before.form ≡ None → Passes old new []
    → length new.held < 4 → SaysNothing old new before
SaysNothing-too_short old new before h passes few =
    SaysNothing-refused old new before (NotRecording 0) h passes (opening-short new.held few) refl

pub SaysEnding-unknown : (old new : Standing) (before : State) → before.form ≡ None → Passes old new []
    → 4 ≤ length new.held → magic_of (number_in HighFirst 4 new.held) ≡ None
    → SaysEnding old new before (Faulted (NotRecording 0)) (totals_by before)
SaysEnding-unknown old new before h passes within unknown =
    SaysEnding-refused old new before (NotRecording 0) h passes
    (λ more _. opening-unknown new.held more within unknown)

pub SaysEnding-packed : (old new : Standing) (before : State) → before.form ≡ None → Passes old new []
    → 4 ≤ length new.held → magic_of (number_in HighFirst 4 new.held) ≡ Some magic.Packed
    → SaysEnding old new before (Faulted Packed) (totals_by before)
SaysEnding-packed old new before h passes within known =
    SaysEnding-refused old new before Packed h passes
    (λ more _. opening-packed new.held more within known)

-- the magic is the same when more is held
pub magic_of-later : (old new : Standing) → Passes old new [] → 4 ≤ length old.held
    → (4 ≤ length new.held)
    × (magic_of (number_in HighFirst 4 new.held) ≡ magic_of (number_in HighFirst 4 old.held))
magic_of-later old new passes within =
    let all : old.held ++ passes.given ≡ new.held = passes.parts in (
      rw (← all) (longer 4 old.held passes.given within),
      rw (← all) (ap magic_of (number_in-append HighFirst 4 old.held passes.given within)),
    )

pub SaysEnding-header : (old new : Standing) (before : State) (order : Order) (nanoseconds : Bool)
    → before.form ≡ None → Passes old new [] → new.ended ≡ true → 4 ≤ length new.held
    → magic_of (number_in HighFirst 4 new.held) ≡ Some (magic.Pcap order nanoseconds)
    → length new.held < 24 → SaysEnding old new before (Faulted (Ended 0)) (totals_by before)
SaysEnding-header old new before order nanoseconds h passes ended within known few =
    SaysEnding-refused old new before (Ended 0) h passes
    (λ more follows. rw (follows ended, append-nil new.held) (opening-cut new.held order nanoseconds within known few))

pub SaysNothing-header : (old new : Standing) (before : State) (order : Order) (nanoseconds : Bool)
    → before.form ≡ None → Passes old new [] → 4 ≤ length new.held
    → magic_of (number_in HighFirst 4 new.held) ≡ Some (magic.Pcap order nanoseconds)
    → length new.held < 24 → SaysNothing old new before
SaysNothing-header old new before order nanoseconds h passes within known few =
    SaysNothing-refused old new before (Ended 0) h passes
    (opening-cut new.held order nanoseconds within known few) refl

pub SaysEnding-version : (old new : Standing) (before : State) (order : Order) (nanoseconds : Bool)
    → before.form ≡ None → Passes old new [] → 24 ≤ length new.held
    → magic_of (number_in HighFirst 4 new.held) ≡ Some (magic.Pcap order nanoseconds)
    → is_pcap_version order new.held ≡ false
    → SaysEnding old new before (Faulted (BadVersion 0)) (totals_by before)
SaysEnding-version old new before order nanoseconds h passes within known other =
    SaysEnding-refused old new before (BadVersion 0) h passes
    (λ more _. opening-version new.held more order nanoseconds within known other)

pub SaysSame-opened : (old mid new : Standing) (before after : State) (order : Order) (nanoseconds : Bool)
    → before.form ≡ None → Passes old mid [] → 24 ≤ length mid.held
    → magic_of (number_in HighFirst 4 mid.held) ≡ Some (magic.Pcap order nanoseconds)
    → is_pcap_version order mid.held ≡ true
    → after ≡ record before { form = Some (form.Pcap (pcap_form order nanoseconds mid.held)); order = order }
    → new.held ≡ drop 24 mid.held → new.left ≡ mid.left → new.over ≡ mid.over → new.calls ≡ mid.calls
    → SaysSame old new before after
SaysSame-opened old mid new before after order nanoseconds h passes within known same is rest left over calls = record {
  given = passes.given;
  gives = Gives-same old mid new passes.given passes.gives left over calls;
  says = λ more.
      let all : old.held ++ passes.given ≡ mid.held = passes.parts in
      let opened : State = record before {
        form = Some (form.Pcap (pcap_form order nanoseconds mid.held));
        order = order;
      } in
      rw (all, rest, is) (recorded_from-opening before (mid.held ++ more) h
      ∙ ap (λ (o : Opening). from_opening o before (mid.held ++ more))
      (opening-opens mid.held more order nanoseconds within known same)
      ∙ ap (blocks_from opened) (drop-append-le 24 mid.held more within)
      ∙ sym (recorded_from-blocks opened (form.Pcap (pcap_form order nanoseconds mid.held))
      (drop 24 mid.held ++ more) refl));
}

opening-blocks : (xs more : List ℕ) → 4 ≤ length xs → magic_of (number_in HighFirst 4 xs) ≡ Some magic.Pcapng
    → opening (xs ++ more) ≡ Opens form.Pcapng LowFirst 0
unfolding opening
opening-blocks xs more within known = rw (
  not_less (length (xs ++ more)) 4 (longer 4 xs more within),
  number_in-append HighFirst 4 xs more within,
  known,
) refl

-- a pcapng begins with its first block
pub SaysSame-blocks : (old new : Standing) (before after : State) → before.form ≡ None → Passes old new []
    → 4 ≤ length new.held → magic_of (number_in HighFirst 4 new.held) ≡ Some magic.Pcapng
    → after ≡ record before { form = Some form.Pcapng; order = LowFirst } → SaysSame old new before after
SaysSame-blocks old new before after h passes within known is = record {
  given = passes.given;
  gives = passes.gives;
  says = λ more.
      let all : old.held ++ passes.given ≡ new.held = passes.parts in
      let opened : State = record before { form = Some form.Pcapng; order = LowFirst } in
      rw (all, is) (recorded_from-opening before (new.held ++ more) h
      ∙ ap (λ (o : Opening). from_opening o before (new.held ++ more)) (opening-blocks new.held more within known)
      ∙ sym (recorded_from-blocks opened form.Pcapng (new.held ++ more) refl));
}

-- bytes before, those that were given first, those given next, and more
regroup : (xs first next more : List ℕ) → (xs ++ (first ++ next)) ++ more ≡ (xs ++ first) ++ (next ++ more)
regroup xs first next more = grind (arith, append_assoc)

first-then : (a b c : Standing) (s t u : State) (item : Numbered) → SaysSame a b s t → SaysFirst b c t u item
    → SaysFirst a c s u item
first-then a b c s t u item same next = record {
  given = same.given ++ next.given;
  gives = Gives-then a b c same.given next.given same.gives next.gives;
  says = λ more. ap (recorded_from s) (regroup a.held same.given next.given more)
      ∙ same.says (next.given ++ more)
      ∙ ap (recorded_from t) (sym (append_assoc b.held next.given more)) ∙ next.says more;
}

ending-then : (a b c : Standing) (s t : State) (ending : Ending) (totals : Totals) → SaysSame a b s t
    → SaysEnding b c t ending totals → SaysEnding a c s ending totals
ending-then a b c s t ending totals same next = record {
  given = same.given ++ next.given;
  gives = Gives-then a b c same.given next.given same.gives next.gives;
  says = λ more follows. ap (recorded_from s) (regroup a.held same.given next.given more)
      ∙ same.says (next.given ++ more)
      ∙ ap (recorded_from t) (sym (append_assoc b.held next.given more)) ∙ next.says more follows;
}

nothing-then : (a b c : Standing) (s t : State) → SaysSame a b s t → SaysNothing b c t → SaysNothing a c s
nothing-then a b c s t same next = record {
  given = same.given ++ next.given;
  gives = Gives-then a b c same.given next.given same.gives next.gives;
  ending = next.ending;
  totals = next.totals;
  says = ap (recorded_from s) (sym (append_assoc a.held same.given next.given))
      ∙ same.says next.given ∙ next.says;
  unfinished = next.unfinished;
}

-- first the same, and then an answer
pub Tells-then : (result : Result Next RunFault) (a b c : Standing) (s t u : State) (item : Numbered)
    → SaysSame a b s t → Tells result b c t u item → Tells result a c s u item
Tells-then (Ok next.Given) a b c s t u item same tells = first-then a b c s t u item same tells
Tells-then (Ok next.Ended) a b c s t u item same tells =
    (tells.0, ending-then a b c s t Over (totals_by u) same tells.1)
Tells-then (Err (run.Recording fault)) a b c s t u item same tells =
    (tells.0, ending-then a b c s t (Faulted fault) tells.0 same tells.1)
Tells-then (Err run.Read) a b c s t u item same tells = nothing-then a b c s t same tells
Tells-then (Err run.Memory) a b c s t u item same tells =
    (same.given ++ tells.0, Gives-then a b c same.given tells.0 same.gives tells.1)
Tells-then (Err (run.BadLine n)) a b c s t u item same tells = absurd tells
Tells-then (Err (run.BadHex n)) a b c s t u item same tells = absurd tells
Tells-then (Err (run.TimeBack n)) a b c s t u item same tells = absurd tells
Tells-then (Err (run.TimeTooLarge n)) a b c s t u item same tells = absurd tells
Tells-then (Err (run.BadPort n)) a b c s t u item same tells = absurd tells
Tells-then (Err (run.Of n)) a b c s t u item same tells = absurd tells
Tells-then (Err (run.LineTooLong n)) a b c s t u item same tells = absurd tells
Tells-then (Err run.TooManyLines) a b c s t u item same tells = absurd tells
Tells-then (Err run.Write) a b c s t u item same tells = absurd tells

-- more is held, and nothing else
pub SaysSame-held : (old new : Standing) (state : State) → Passes old new [] → SaysSame old new state state
SaysSame-held old new state passes = record {
  given = passes.given;
  gives = passes.gives;
  says = λ more. ap (λ (bytes : List ℕ). recorded_from state (bytes ++ more)) passes.parts;
}

pub SaysSame-then : (a b c : Standing) (s t u : State) → SaysSame a b s t → SaysSame b c t u → SaysSame a c s u
SaysSame-then a b c s t u same next = record {
  given = same.given ++ next.given;
  gives = Gives-then a b c same.given next.given same.gives next.gives;
  says = λ more. ap (recorded_from s) (regroup a.held same.given next.given more)
      ∙ same.says (next.given ++ more)
      ∙ ap (recorded_from t) (sym (append_assoc b.held next.given more)) ∙ next.says more;
}
