use Rattle.std.proofs.Common.{rules, arith, ◌≡◌, ◌+◌, ◌-◌, ◌++◌, ◌∷◌, [], length, take, drop, refl}
use Rattle.std.proofs.Common.{sym, ap, ◌∙◌, subst, append_assoc}
use Rattle.std.proofs.lemmas.List.{append-nil, length-take-le, take_at}
use Rattle.afdx_input_lines.specs.Lines.{unread, latest_line, HasNoFeed}
use Rattle.afdx_input_lines.proofs.ReaderLemmas.{unread_length, unread_nothing, few_lines, all_taken, none_after}
use Rattle.afdx_input_lines.proofs.TakingLemmas.{TakesBytes-then, TakesBytes-part, TakesLine-feed}
use Rattle.afdx_input_lines.proofs.TakingLemmas.{TakesLine-last, IsAtEnd-left, some_line_left}
use Rattle.afdx_input_lines.proofs.LineLemmas.{feed-or-none, lines_of_some}
use Rattle.afdx_input_lines.proofs.TakingLemmas.{long_line_held, long_line_left}
use Rattle.afdx_input_lines.proofs.line_reader.LineReader.next_line.Goals as goal

pub returns-then-holds_too_many-clause-fault : goal.returns-then-holds_too_many-clause-fault
returns-then-holds_too_many-clause-fault g c =
    let over = c.if-holds_too_many.ensures.yes refl in (
      omega (arith, over.0, c.reads.invariant.lines),
      some_line_left _ _ _ (unread c.reads.self)
          (omega (arith, unread_length c.reads.self, over.1)) c.reads.invariant.taken,
    )

pub returns-then-holds_too_many-clause-part : goal.returns-then-holds_too_many-clause-part
returns-then-holds_too_many-clause-part g c =
    let over = c.if-holds_too_many.ensures.yes refl in (
      c.reads.invariant.ended,
      c.reads.invariant.taken,
      lines_of_some (unread c.reads.self) (omega (arith, unread_length c.reads.self, over.1)),
    )

pub returns-then-length-gt-LONGEST_LINE-clause-part :
    goal.returns-then-length-gt-LONGEST_LINE-clause-part
returns-then-length-gt-LONGEST_LINE-clause-part g c =
    let feed = c.in-Some.ensures.found in
    let size : length (take c.in-Some.length (unread c.reads.self)) ≡ c.in-Some.length =
    length-take-le c.in-Some.length (unread c.reads.self) (omega (arith, feed.within)) in (
      c.reads.invariant.ended,
      c.reads.invariant.taken,
      long_line_held (unread c.reads.self) (take c.in-Some.length (unread c.reads.self)) _ feed.no_feed
          (omega (arith, size, c.if-length-gt-LONGEST_LINE.true)) feed.parts,
    )

pub returns-then-searched-gt-LONGEST_LINE-clause-part :
    goal.returns-then-searched-gt-LONGEST_LINE-clause-part
returns-then-searched-gt-LONGEST_LINE-clause-part g c = (
  c.reads.invariant.ended,
  c.reads.invariant.taken,
  long_line_held (unread c.reads.self) (unread c.reads.self) [] (search rules)
      (omega (arith, unread_length c.reads.self, c.if-searched-gt-LONGEST_LINE.true))
      (sym (append-nil (unread c.reads.self))),
)

pub returns-then-length-gt-LONGEST_LINE-clause-fault :
    goal.returns-then-length-gt-LONGEST_LINE-clause-fault
returns-then-length-gt-LONGEST_LINE-clause-fault g c =
    let feed = c.in-Some.ensures.found in
    let size : length (take c.in-Some.length (unread c.reads.self)) ≡ c.in-Some.length =
    length-take-le c.in-Some.length (unread c.reads.self) (omega (arith, feed.within)) in (
      ap (λ n. n + 1) c.reads.invariant.lines,
      rw (← c.reads.invariant.lines)
          (few_lines c.reads.self.lines c.reads.self.start c.reads.self.end (c.in-Some.length + 1)
          (c.if-holds_too_many.ensures.no refl) c.in-Some.ensures.within (omega arith)),
      long_line_left _ _ _ (unread c.reads.self) (take c.in-Some.length (unread c.reads.self)) _
          feed.no_feed (omega (arith, size, c.if-length-gt-LONGEST_LINE.true)) feed.parts
          c.reads.invariant.taken,
    )

pub returns-in-Some-clause-line : goal.returns-in-Some-clause-line
returns-in-Some-clause-line g c = λ _.
    let feed = c.in-Some.ensures.found in
    let line = take c.in-Some.length (unread c.reads.self) in
    let rest = drop (c.in-Some.length + 1) (unread c.reads.self) in
    rw (c.take_line.ensures.line, c.take_line.ensures.rest) (
    TakesLine-feed _ _ (unread c.args.self.now) rest line feed.no_feed (
    TakesBytes-part _ _ _ (unread c.reads.self) rest (line ++ 10 ∷ []) c.reads.invariant.taken
    (feed.parts ∙ sym (append_assoc line (10 ∷ []) rest))))

pub returns-then-searched-gt-LONGEST_LINE-clause-fault :
    goal.returns-then-searched-gt-LONGEST_LINE-clause-fault
returns-then-searched-gt-LONGEST_LINE-clause-fault g c = (
  ap (λ n. n + 1) c.reads.invariant.lines,
  rw (← c.reads.invariant.lines)
      (few_lines c.reads.self.lines c.reads.self.start c.reads.self.end
      (c.reads.self.end - c.reads.self.start) (c.if-holds_too_many.ensures.no refl) (omega arith)
      (omega (arith, c.if-searched-gt-LONGEST_LINE.true))),
  long_line_left _ _ _ (unread c.reads.self) (unread c.reads.self) [] (search rules)
      (omega (arith, unread_length c.reads.self, c.if-searched-gt-LONGEST_LINE.true))
      (sym (append-nil (unread c.reads.self))) c.reads.invariant.taken,
)

pub returns-in_err-refill-clause-read : goal.returns-in_err-refill-clause-read
returns-in_err-refill-clause-read g c = λ _.
    let stopped = c.in_err-refill.ensures.err in
    let none : HasNoFeed (unread c.reads.self) = search rules in (
      sym c.reads.invariant.ended ∙ stopped.0,
      subst HasNoFeed (sym stopped.1) none,
      TakesBytes-then _ _ _ _ _ _ c.reads.invariant.taken c.refill.ensures.bytes,
    )

pub returns-then-searched-eq0-clause-last : goal.returns-then-searched-eq0-clause-last
returns-then-searched-eq0-clause-last g c = λ _.
    let last = c.refill.ensures.last (search rules) in
    let all : unread c.refill.new.self ≡ [] = last.1
    ∙ unread_nothing c.reads.self (omega (arith, c.if-searched-eq0.true)) in (
      last.0,
      IsAtEnd-left _ _ _ (unread c.refill.new.self) all (c.refill.ensures.honest last.0)
          (TakesBytes-then _ _ _ _ _ _ c.reads.invariant.taken c.refill.ensures.bytes),
    )

pub returns-in-Ended-clause-line : goal.returns-in-Ended-clause-line
returns-in-Ended-clause-line g c = λ _.
    let last = c.refill.ensures.last (search rules) in
    let held = c.reads.self.end - c.reads.self.start in
    let line = unread c.reads.self in
    let none : HasNoFeed line = search rules in
    let line_is : latest_line c.take_line-in-Ended.new.self ≡ line =
    c.take_line-in-Ended.ensures.line ∙ ap (take held) last.1
    ∙ all_taken line held (unread_length c.reads.self) in
    let rest_is : unread c.take_line-in-Ended.new.self ≡ [] =
    c.take_line-in-Ended.ensures.rest ∙ ap (drop (held + 0)) last.1
    ∙ none_after line held (unread_length c.reads.self) in
    rw (line_is, rest_is) (
    TakesLine-last _ _ (unread c.args.self.now) [] line none
    (omega (arith, unread_length c.reads.self, c.if-searched-eq0.false)) refl
    (c.refill.ensures.honest last.0) (
    TakesBytes-part _ _ _ (unread c.refill.new.self) [] line
    (TakesBytes-then _ _ _ _ _ _ c.reads.invariant.taken c.refill.ensures.bytes)
    (last.1 ∙ sym (append-nil line))))

pub reads-preserved : goal.reads-preserved
reads-preserved g c =
    let more = c.refill.ensures.more (search rules) in
    let held = c.reads.self.end - c.reads.self.start in
    let none : HasNoFeed (unread c.reads.self) = search rules in
    let given = c.refill.ensures.bytes in
    let front : take held (unread c.refill.new.self) ≡ unread c.reads.self =
    ap (take held) (sym given.parts)
    ∙ take_at (unread c.reads.self) given.given held (unread_length c.reads.self) in
    record {
      sound = search rules;
      honest = search rules;
      ended = more.1 ∙ c.reads.invariant.ended;
      lines = search rules;
      within = omega (arith, more.0);
      short = omega (arith, c.if-searched-gt-LONGEST_LINE.false);
      full = λ h. let same = c.if-holds_too_many.ensures.no refl
          (omega (arith, h, c.refill.ensures.lines)) in omega (arith, same);
      no_feed = subst HasNoFeed (sym front) none;
      taken = TakesBytes-then _ _ _ _ _ _ c.reads.invariant.taken c.refill.ensures.bytes;
      calls = omega (arith, c.refill.ensures.calls, c.reads.invariant.held);
      unasked = λ n feed. absurd (feed-or-none _ n feed (subst HasNoFeed (c.reads.invariant.unasked n feed).1 none));
      held = omega (arith, c.refill.ensures.calls, c.reads.invariant.held, more.0);
    }

-- a line feed that was held at first: nothing was read
pub returns-in_err-refill-clause-unasked : goal.returns-in_err-refill-clause-unasked
returns-in_err-refill-clause-unasked g c n feed =
    let none : HasNoFeed (unread c.reads.self) = search rules in
    absurd (feed-or-none _ n feed (subst HasNoFeed (c.reads.invariant.unasked n feed).1 none))

pub returns-then-searched-eq0-clause-unasked : goal.returns-then-searched-eq0-clause-unasked
returns-then-searched-eq0-clause-unasked g c n feed =
    let none : HasNoFeed (unread c.reads.self) = search rules in
    absurd (feed-or-none _ n feed (subst HasNoFeed (c.reads.invariant.unasked n feed).1 none))

pub returns-in-Ended-clause-unasked : goal.returns-in-Ended-clause-unasked
returns-in-Ended-clause-unasked g c n feed =
    let none : HasNoFeed (unread c.reads.self) = search rules in
    absurd (feed-or-none _ n feed (subst HasNoFeed (c.reads.invariant.unasked n feed).1 none))
