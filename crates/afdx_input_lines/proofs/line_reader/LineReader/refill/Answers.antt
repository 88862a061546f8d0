use Rattle.std.proofs.Common.{rules, arith, ◌≡◌, ◌-◌, ◌≤◌, ◌++◌, [], List, ℕ, length, take, sym, ap}
use Rattle.std.proofs.Common.{◌∙◌, slice_range, add-zero}
use Rattle.std.proofs.lemmas.List.{append-nil}
use Rattle.std.proofs.KnownBytes.{Consumes-nil, Consumes-kept}
use Rattle.afdx_input_lines.specs.Lines.{unread}
use Rattle.afdx_input_lines.proofs.ReaderLemmas.{read_behind, kept_before, unread_from_front, room_behind, gave_none}
use Rattle.afdx_input_lines.proofs.line_reader.LineReader.refill.Goals as goal

pub returns-in-Ok-clause-bytes : goal.returns-in-Ok-clause-bytes
unfolding unread
returns-in-Ok-clause-bytes g c =
    let moved = c.move_to_front.new.self in
    let chunk = c.as_mut_slice.result.now in
    let held : slice_range chunk 0 moved.end ≡ unread c.args.self.now =
    ap (λ (xs : List ℕ). slice_range xs 0 moved.end) c.as_mut_slice.ensures.value
    ∙ unread_from_front moved c.move_to_front.ensures.start ∙ c.move_to_front.ensures.unread in
    let size : length chunk ≡ moved.chunk.len = c.as_mut_slice.ensures.len in
    let whole : moved.end ≤ moved.chunk.len = moved.within in
    let room : length c.read.new.buf ≡ length chunk - moved.end = c.read.auto.buf
    ∙ room_behind chunk moved.end (omega (arith, size, whole)) in
    record {
      given = take c.in-Ok.count c.read.new.buf;
      consumed = (c.in-Ok.ensures.bytes (search rules)).0;
      parts = rw c.move_to_front.ensures.start (sym (
          read_behind chunk c.read.new.buf _ _ moved.chunk.len moved.end c.in-Ok.count
          (omega (arith, size, whole)) (omega
          (arith, size, whole, room, c.in-Ok.ensures.bound.0)) c.in-Ok.ensures.bound.0
          ∙ ap (λ (bytes : List ℕ). bytes ++ take c.in-Ok.count c.read.new.buf) held));
    }

pub returns-in-Ok-clause-last : goal.returns-in-Ok-clause-last
unfolding unread
returns-in-Ok-clause-last g c = λ h.
    let none = c.of_read.ensures.ended (search rules) in
    let moved = c.move_to_front.new.self in
    let chunk = c.as_mut_slice.result.now in
    let held : slice_range chunk 0 moved.end ≡ unread c.args.self.now =
    ap (λ (xs : List ℕ). slice_range xs 0 moved.end) c.as_mut_slice.ensures.value
    ∙ unread_from_front moved c.move_to_front.ensures.start ∙ c.move_to_front.ensures.unread in
    let size : length chunk ≡ moved.chunk.len = c.as_mut_slice.ensures.len in
    let whole : moved.end ≤ moved.chunk.len = moved.within in
    let room = room_behind chunk moved.end (omega (arith, size, whole)) in (
      c.in-Ok.ensures.ended ∙ gave_none _ _ _ none
          (omega (
            arith,
            room,
            size,
            c.args.self.now.room,
            moved.room,
            c.requires.short,
            c.move_to_front.ensures.end,
          )),
      rw (c.move_to_front.ensures.start, none, add-zero) (
          kept_before chunk c.read.new.buf _ _ moved.chunk.len moved.end (omega (arith, size, whole)) whole ∙ held),
      omega (arith, none, c.move_to_front.ensures.start, c.move_to_front.ensures.end),
    )

pub returns-in-Err-clause-bytes : goal.returns-in-Err-clause-bytes
unfolding unread
returns-in-Err-clause-bytes g c =
    let moved = c.move_to_front.new.self in
    let chunk = c.as_mut_slice.result.now in
    let held : slice_range chunk 0 moved.end ≡ unread c.args.self.now =
    ap (λ (xs : List ℕ). slice_range xs 0 moved.end) c.as_mut_slice.ensures.value
    ∙ unread_from_front moved c.move_to_front.ensures.start ∙ c.move_to_front.ensures.unread in
    let size : length chunk ≡ moved.chunk.len = c.as_mut_slice.ensures.len in
    record {
      given = [];
      consumed = Consumes-kept _ _ _ _ (Consumes-nil _) (c.in-Err.ensures.bytes (search rules));
      parts = append-nil _ ∙ rw c.move_to_front.ensures.start (sym (
          kept_before chunk c.read.new.buf _ _ moved.chunk.len moved.end
          (omega (arith, size, moved.within)) moved.within ∙ held));
    }

pub returns-in-Err-clause-err : goal.returns-in-Err-clause-err
unfolding unread
returns-in-Err-clause-err g c =
    let moved = c.move_to_front.new.self in
    let chunk = c.as_mut_slice.result.now in
    let held : slice_range chunk 0 moved.end ≡ unread c.args.self.now =
    ap (λ (xs : List ℕ). slice_range xs 0 moved.end) c.as_mut_slice.ensures.value
    ∙ unread_from_front moved c.move_to_front.ensures.start ∙ c.move_to_front.ensures.unread in
    let size : length chunk ≡ moved.chunk.len = c.as_mut_slice.ensures.len in (
      search rules,
      rw c.move_to_front.ensures.start (
          kept_before chunk c.read.new.buf _ _ moved.chunk.len moved.end
          (omega (arith, size, moved.within)) moved.within ∙ held),
    )
