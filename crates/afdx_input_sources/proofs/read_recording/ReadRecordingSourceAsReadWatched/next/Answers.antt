use Rattle.std.proofs.Common.{rules, arith, ◌≡◌, ◌∙◌, refl, sym, ap, Ok, Err, false, ◌+◌}
use Rattle.afdx_input_files.specs.Holding.{standing}
use Rattle.afdx_input_files.specs.Reading.{state_of, latest, SaysFirst}
use Rattle.afdx_input_lines.specs.declared.next.Next.TheVariants as next
use Rattle.afdx_input_sources.specs.Becoming.{options_of}
use Rattle.afdx_input_sources.specs.Claims.{ports_of}
use Rattle.afdx_input_sources.specs.RecordingSource.{first_standing}
use Rattle.afdx_input_sources.specs.Sequences.{numbers_read}
use Rattle.afdx_input_sources.proofs.SourceLemmas.{Sorting, fails-unread, fails-unwritten, gives-reader, gives-number}
use Rattle.afdx_input_sources.proofs.SourceLemmas.{stops-reader, stops-number, same-stops, gives-same, honest-same}
use Rattle.afdx_input_sources.proofs.SourceLemmas.{gave-item, item-follows, ended-well, stops-end, few-skipped, few-claimed}
use Rattle.afdx_input_sources.proofs.SourceLemmas.{few-contradicted}
use Rattle.afdx_input_sources.proofs.read_recording.ReadRecordingSourceAsReadWatched.next.Goals as goal

pub returns-in_err-next-clause-stop : goal.returns-in_err-next-clause-stop
returns-in_err-next-clause-stop g c start past h =
    let old = c.args.self.now in
    let first = first_standing g.R.Read.remaining start in
    let before = standing g.R.Read.remaining old.reader.held c.args.input.now in
    let after = standing g.R.Read.remaining c.next.new.self.held c.next.new.input in
    let e : c.from_residual.result ≡ Err c.in_err-next.field-0.0 = search rules in
    rw e (record {
      failed = c.in_err-next.ensures.failed;
      honest = c.next.ensures.honest;
      gives = gives-reader (options_of old.options) (ports_of old.ports) first before after (numbers_read past)
          (state_of old.reader) (state_of c.next.new.self) (latest c.next.new.self) h.sorts
          c.in_err-next.field-0.0 c.in_err-next.ensures.tells;
      stops = stops-reader (options_of old.options) (ports_of old.ports) first before after (numbers_read past)
          (state_of old.reader) (state_of c.next.new.self) (latest c.next.new.self) h.sorts
          c.in_err-next.field-0.0 c.in_err-next.ensures.tells;
    })

pub returns-in-Ended-clause-end : goal.returns-in-Ended-clause-end
returns-in-Ended-clause-end g c start past h ok =
    let is : c.next.result ≡ Ok next.Ended = search rules in
    ended-well g.R.Read.remaining start c.args.input.now c.next.new.input c.args.self.now
    c.next.new.self (numbers_read past) h
    (rw is at c.next.ensures.failed) c.next.ensures.honest (rw is at c.next.ensures.tells) (sym c.end.ensures ∙ ok)

pub returns-in-Ended-clause-stop : goal.returns-in-Ended-clause-stop
returns-in-Ended-clause-stop g c start past h =
    let is : c.next.result ≡ Ok next.Ended = search rules in
    rw c.end.ensures (stops-end g.R.Read.remaining start c.args.input.now c.next.new.input c.args.self.now
    c.next.new.self (numbers_read past) h (rw is at c.next.ensures.failed) c.next.ensures.honest
    (rw is at c.next.ensures.tells))

pub sort-requires-clause-skipped : goal.sort-requires-clause-skipped
sort-requires-clause-skipped g c =
    let is : c.next.result ≡ Ok next.Given = search rules in
    let number = c.next.ensures.number is in
    let h = c.requires.2 in
    let few = few-skipped (numbers_read c.requires.1) in
    rw h.remembers.counts (omega (arith, few, number, h.numbers, c.next.ensures.few))

pub sort-requires-clause-claimed : goal.sort-requires-clause-claimed
sort-requires-clause-claimed g c =
    let is : c.next.result ≡ Ok next.Given = search rules in
    let number = c.next.ensures.number is in
    let h = c.requires.2 in
    let few = few-claimed (numbers_read c.requires.1) in
    rw h.remembers.counts (omega (arith, few, number, h.numbers, c.next.ensures.few))

pub sort-requires-clause-contradicted : goal.sort-requires-clause-contradicted
sort-requires-clause-contradicted g c =
    let is : c.next.result ≡ Ok next.Given = search rules in
    let number = c.next.ensures.number is in
    let h = c.requires.2 in
    let few = few-contradicted (numbers_read c.requires.1) in
    rw h.remembers.counts (omega (arith, few, number, h.numbers, c.next.ensures.few))

pub returns-in_err-sort-clause-stop : goal.returns-in_err-sort-clause-stop
returns-in_err-sort-clause-stop g c start past h =
    let old = c.args.self.now in
    let first = first_standing g.R.Read.remaining start in
    let before = standing g.R.Read.remaining old.reader.held c.args.input.now in
    let after = standing g.R.Read.remaining c.next.new.self.held c.next.new.input in
    let is : c.next.result ≡ Ok next.Given = search rules in
    let says : SaysFirst before after (state_of old.reader) (state_of c.next.new.self) (latest c.next.new.self) =
    rw is at c.next.ensures.tells in
    let number = c.next.ensures.number is in
    let fails = c.in_err-sort.ensures.fault (numbers_read past) (number ∙ ap (λ m. m + 1) (sym h.numbers)) in
    let sound : c.next.new.input.failed ≡ false = search rules in
    let e : c.from_residual-in_err-sort.result ≡ Err c.in_err-sort.field-0.0 = search rules in
    rw e (record {
      failed = sound ∙ sym (fails-unread c.in_err-sort.field-0.0 _ fails);
      honest = honest-same g.R.Read.remaining c.next.new.input c.next.new.self c.sort.new.self.reader
          c.sort.ensures.reader c.next.ensures.honest;
      gives = gives-same g.R.Read.remaining first c.next.new.input c.next.new.self c.sort.new.self.reader
          c.sort.ensures.reader
          (gives-number (options_of old.options) (ports_of old.ports) first before after (numbers_read past)
          (state_of old.reader) (state_of c.next.new.self) (latest c.next.new.self) h.sorts says);
      stops = same-stops g.R.Read.remaining first c.next.new.input (numbers_read past)
          c.in_err-sort.field-0.0 old.options c.sort.new.self.options old.ports c.sort.new.self.ports
          c.next.new.self c.sort.new.self.reader c.sort.ensures.options c.sort.ensures.ports c.sort.ensures.reader
          (stops-number (options_of old.options) (ports_of old.ports) first before after (numbers_read past)
          (state_of old.reader) (state_of c.next.new.self) (latest c.next.new.self) h.sorts
          c.in_err-sort.field-0.0 says fails);
    })

pub returns-in_err-sort-clause-unwritten : goal.returns-in_err-sort-clause-unwritten
returns-in_err-sort-clause-unwritten g c =
    let h = c.requires.2 in
    let is : c.next.result ≡ Ok next.Given = search rules in
    let number = c.next.ensures.number is in
    let fails = c.in_err-sort.ensures.fault (numbers_read c.requires.1)
    (number ∙ ap (λ m. m + 1) (sym h.numbers)) in
    let e : c.from_residual-in_err-sort.result ≡ Err c.in_err-sort.field-0.0 = search rules in
    rw e (fails-unwritten c.in_err-sort.field-0.0 _ fails)

pub returns-clause-item : goal.returns-clause-item
returns-clause-item g c start past h ok =
    let old = c.args.self.now in
    let is : c.next.result ≡ Ok next.Given = search rules in
    let number = c.next.ensures.number is in
    let k : Sorting g.R.Read.remaining c.args.input.now c.next.new.input old c.next.new.self c.sort.new.self = record {
      sound = search rules;
      honest = c.next.ensures.honest;
      says = rw is at c.next.ensures.tells;
      number = number;
      few = c.next.ensures.few;
      reader_is = c.sort.ensures.reader;
      options_are = c.sort.ensures.options;
      ports_are = c.sort.ensures.ports;
      remembers = c.in_ok-sort.ensures.remembers;
    } in
    let sorted = c.in_ok-sort.ensures.number (numbers_read past) (number ∙ ap (λ m. m + 1) (sym h.numbers)) in (
      gave-item g.R.Read.remaining start c.args.input.now c.next.new.input old c.next.new.self
          c.sort.new.self (numbers_read past)
          h k sorted,
      item-follows g.R.Read.remaining start c.args.input.now c.next.new.input old c.next.new.self c.sort.new.self
          (numbers_read past) h k sorted past refl,
      tt,
    )
