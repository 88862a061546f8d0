use Rattle.std.proofs.Common.{rules, arith, ◌≡◌, ◌-◌, ◌≤◌, ◌++◌, ◌||◌, [], List, ℕ, length, take, drop, sym, ap}
use Rattle.std.proofs.Common.{◌∙◌, slice_range, false, true, refl}
use Rattle.std.proofs.lemmas.List.{append-nil, length-take-le}
use Rattle.std.proofs.KnownBytes.{Consumes-nil, Consumes-kept}
use Rattle.afdx_input_files.specs.Holding.{unread}
use Rattle.afdx_input_lines.proofs.ReaderLemmas.{room_behind, gave_none}
use Rattle.afdx_input_files.proofs.HeldLemmas.{read_after, kept_after, calls_of_read, over_by_end}
use Rattle.afdx_input_files.proofs.held.Held.refill.Goals as goal

pub returns-in-Ok-clause-passes : goal.returns-in-Ok-clause-passes
unfolding unread
returns-in-Ok-clause-passes g c =
    let held = c.args.self.now in
    let chunk = c.as_mut_slice.result.now in
    let size : length chunk ≡ held.chunk.len = c.as_mut_slice.ensures.len in
    let whole : held.end ≤ held.chunk.len = held.within in
    let behind = room_behind chunk held.end (omega (arith, size, whole)) in
    let room : length c.read.new.buf ≡ length chunk - held.end = c.read.auto.buf ∙ behind in
    let fewer : c.in-Ok.count ≤ length c.read.new.buf = c.in-Ok.ensures.bound.0 in
    let shut : (c.args.input.now.failed || c.args.input.now.ended) ≡ false = search rules in
    record {
      given = take c.in-Ok.count c.read.new.buf;
      gives = record {
        consumed = (c.in-Ok.ensures.bytes (search rules)).0;
        calls = rw length-take-le (calls_of_read (c.args.input.now.failed || c.args.input.now.ended)
            (c.read.new.self.failed || c.read.new.self.ended) c.args.input.now.calls c.read.new.self.calls
            c.in-Ok.count shut (c.in-Ok.ensures.calls shut)
            (λ none. over_by_end c.read.new.self.failed c.read.new.self.ended
            (c.in-Ok.ensures.ended ∙ gave_none c.args.input.now.ended c.in-Ok.count
            (length (take (length chunk - held.end) (drop held.end chunk))) none
            (omega (arith, size, c.requires.room, behind)))));
      };
      parts = sym (
          read_after chunk c.read.new.buf _ _ held.chunk.len held.start held.end c.in-Ok.count held.ordered
          (omega (arith, size, whole)) (omega (arith, size, whole, room, fewer)) fewer
          ∙ ap (λ (bytes : List ℕ). bytes ++ take c.in-Ok.count c.read.new.buf)
          (ap (λ (xs : List ℕ). slice_range xs held.start held.end) c.as_mut_slice.ensures.value));
    }

pub returns-in-Err-clause-passes : goal.returns-in-Err-clause-passes
unfolding unread
returns-in-Err-clause-passes g c =
    let held = c.args.self.now in
    let chunk = c.as_mut_slice.result.now in
    let size : length chunk ≡ held.chunk.len = c.as_mut_slice.ensures.len in
    let shut : (c.args.input.now.failed || c.args.input.now.ended) ≡ false = search rules in
    let failed : c.read.new.self.failed ≡ true = search rules in
    record {
      given = [];
      gives = record {
        consumed = Consumes-kept _ _ _ _ (Consumes-nil _) (c.in-Err.ensures.bytes (search rules));
        calls = calls_of_read (c.args.input.now.failed || c.args.input.now.ended)
            (c.read.new.self.failed || c.read.new.self.ended) c.args.input.now.calls c.read.new.self.calls
            0 shut (c.in-Err.ensures.calls shut) (λ _. rw failed refl);
      };
      parts = append-nil _ ∙ sym (
          kept_after chunk c.read.new.buf _ _ held.chunk.len held.start held.end held.ordered
          (omega (arith, size, held.within)) held.within
          ∙ ap (λ (xs : List ℕ). slice_range xs held.start held.end) c.as_mut_slice.ensures.value);
    }
