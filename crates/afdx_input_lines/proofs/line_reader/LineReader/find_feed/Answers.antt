use Rattle.std.proofs.Common.{arith, ◌≡◌, ◌+◌, ◌-◌, List, ℕ, take, drop, subst, ap, ◌∙◌, Some, None}
use Rattle.memchr.specs.Find.{IsFirstByte, is_byte}
use Rattle.afdx_input_lines.specs.Lines.{unread}
use Rattle.afdx_input_lines.proofs.LineLemmas.{first_feed, no_feed_found}
use Rattle.afdx_input_lines.proofs.ReaderLemmas.{rest_between, unread_length}
use Rattle.afdx_input_lines.proofs.line_reader.LineReader.find_feed.Goals as goal

pub returns-in-Some-clause-found : goal.returns-in-Some-clause-found
unfolding unread
returns-in-Some-clause-found c =
    let reader = c.args.self.now in
    let rest : take (reader.end - (reader.start + c.args.searched))
    (drop (reader.start + c.args.searched) c.deref.result.now)
    ≡ drop c.args.searched (unread reader) =
    ap (λ items. take (reader.end - (reader.start + c.args.searched))
    (drop (reader.start + c.args.searched) items)) c.deref.ensures.value
    ∙ rest_between reader.chunk.items reader.start reader.end c.args.searched c.requires.within in
    first_feed (unread reader) c.args.searched c.in-Some.at
    (omega (arith, unread_length reader, c.requires.within)) c.requires.no_feed
    (subst (λ (bytes : List ℕ). IsFirstByte (is_byte 10) bytes (Some c.in-Some.at)) rest c.in-Some.ensures)

pub returns-in-None-clause-none : goal.returns-in-None-clause-none
unfolding unread
returns-in-None-clause-none c =
    let reader = c.args.self.now in
    let rest : take (reader.end - (reader.start + c.args.searched))
    (drop (reader.start + c.args.searched) c.deref.result.now)
    ≡ drop c.args.searched (unread reader) =
    ap (λ items. take (reader.end - (reader.start + c.args.searched))
    (drop (reader.start + c.args.searched) items)) c.deref.ensures.value
    ∙ rest_between reader.chunk.items reader.start reader.end c.args.searched c.requires.within in
    no_feed_found (unread reader) c.args.searched c.requires.no_feed
    (subst (λ (bytes : List ℕ). IsFirstByte (is_byte 10) bytes None) rest c.in-None.ensures)
