use Rattle.std.proofs.Common.{rules, arith, ◌≡◌, ◌∙◌, sym, ap, Ok, Err, refl}
use Rattle.afdx_input_lines.specs.declared.next.Next.TheVariants as next
use Rattle.afdx_input_sources.specs.Engine.{item_of}
use Rattle.afdx_input_sources.specs.Items.{thing_of}
use Rattle.afdx_input_sources.proofs.ListSourceLemmas.{TookLine, gave-skip, gave-item, stopped-line, stopped-reader}
use Rattle.afdx_input_sources.proofs.read_list.ReadListSourceWatched.next.Goals as goal

pub returns-in_err-next_line-clause-stop : goal.returns-in_err-next_line-clause-stop
returns-in_err-next_line-clause-stop g c start past h =
    let k = g.F.LineForm.kind c.loop-self.self.form in
    let given = c.loop-self.invariant.gave start past h in
    let gave = given.gave in
    let e : c.from_residual.result ≡ Err c.in_err-next_line.field-0.0 = search rules in
    rw e (stopped-reader k (thing_of k g.F.LineForm.says_of) g.R.Read.remaining start c.loop-self.input
    c.next_line.new.input c.loop-self.self.reader c.next_line.new.self
    (g.H.Listed.time_of c.loop-self.self.head) past gave
    c.in_err-next_line.field-0.0 c.in_err-next_line.ensures.fault c.in_err-next_line.ensures.failed
    (λ e. c.in_err-next_line.ensures.read (ap Err e)) c.next_line.ensures.honest c.in_err-next_line.ensures.part
    c.next_line.ensures.calls c.next_line.ensures.last_call)

pub returns-in-Ok-Some-clause-item : goal.returns-in-Ok-Some-clause-item
returns-in-Ok-Some-clause-item g c start past h ok =
    let k = g.F.LineForm.kind c.loop-self.self.form in
    let is : c.next_line.result ≡ Ok next.Given = search rules in
    let lines = c.next_line.ensures.lines is in
    let took : TookLine g.R.Read.remaining c.loop-self.self.reader c.loop-self.input c.next_line.new.self
    c.next_line.new.input = record {
      sound = search rules;
      honest = c.next_line.ensures.honest;
      line = c.next_line.ensures.line is;
      short = c.next_line.ensures.short is;
      lines = lines;
      whole = c.next_line.ensures.whole is;
      calls = c.next_line.ensures.calls;
    } in
    let given = c.loop-self.invariant.gave start past h in
    let gave = given.gave in
    let early = rw c.in-Ok-Some.field-0-is at c.in-Ok-Some.ensures.time in
    let follows = rw c.in-Ok-Some.field-0-is at c.in-Ok-Some.ensures.follows in
    let x = item_of c.next_line.new.self.lines c.in-Ok-Some.head c.read_line.new.bytes.items in (
      record {
        form = given.form;
        gave = gave-item k (thing_of k g.F.LineForm.says_of) g.R.Read.remaining start c.loop-self.input
            c.next_line.new.input c.loop-self.self.reader c.next_line.new.self
            (g.H.Listed.time_of c.loop-self.self.head) past gave took x
            (g.F.LineForm.says_of c.in-Ok-Some.head c.read_line.new.bytes.items) _
            (rw (c.line.ensures, c.time-latest.ensures, c.in-Ok-Some.field-0-is) at c.in-Ok-Some.ensures.ok) refl
            (sym (g.met.F.LineForm.times _ _ _ _)) early;
      },
      follows past c.next_line.new.self.lines (sym gave.latest_is ∙ sym c.time-latest.ensures)
          (omega (arith, gave.fewer, lines.0, lines.1)),
      (rw c.in-Ok-Some.field-0-is at c.in-Ok-Some.ensures.gives) c.next_line.new.self.lines,
    )

pub loop-self-preserved : goal.loop-self-preserved
loop-self-preserved g c =
    let k = g.F.LineForm.kind c.loop-self.self.form in
    let is : c.next_line.result ≡ Ok next.Given = search rules in
    let lines = c.next_line.ensures.lines is in
    let took : TookLine g.R.Read.remaining c.loop-self.self.reader c.loop-self.input c.next_line.new.self
    c.next_line.new.input = record {
      sound = search rules;
      honest = c.next_line.ensures.honest;
      line = c.next_line.ensures.line is;
      short = c.next_line.ensures.short is;
      lines = lines;
      whole = c.next_line.ensures.whole is;
      calls = c.next_line.ensures.calls;
    } in
    record {
      gave = λ start past h. record {
        form = (c.loop-self.invariant.gave start past h).form;
        gave = gave-skip k (thing_of k g.F.LineForm.says_of) g.R.Read.remaining start
            c.loop-self.input c.next_line.new.input c.loop-self.self.reader c.next_line.new.self
            (g.H.Listed.time_of c.loop-self.self.head) past
            (c.loop-self.invariant.gave start past h).gave took
            (rw (c.line.ensures, c.time-latest.ensures, c.in-Ok-None.field-0-is) at c.in-Ok-None.ensures.ok);
      };
      form = c.loop-self.invariant.form;
      later = omega (arith, lines.0, c.loop-self.invariant.later);
    }

pub returns-in-Err-clause-stop : goal.returns-in-Err-clause-stop
returns-in-Err-clause-stop g c start past h =
    let k = g.F.LineForm.kind c.loop-self.self.form in
    let is : c.next_line.result ≡ Ok next.Given = search rules in
    let lines = c.next_line.ensures.lines is in
    let took : TookLine g.R.Read.remaining c.loop-self.self.reader c.loop-self.input c.next_line.new.self
    c.next_line.new.input = record {
      sound = search rules;
      honest = c.next_line.ensures.honest;
      line = c.next_line.ensures.line is;
      short = c.next_line.ensures.short is;
      lines = lines;
      whole = c.next_line.ensures.whole is;
      calls = c.next_line.ensures.calls;
    } in
    let given = c.loop-self.invariant.gave start past h in
    let gave = given.gave in
    let stopped = stopped-line k (thing_of k g.F.LineForm.says_of) g.R.Read.remaining start c.loop-self.input
    c.next_line.new.input c.loop-self.self.reader c.next_line.new.self
    (g.H.Listed.time_of c.loop-self.self.head) past gave took
    c.in-Err.error (rw (c.line.ensures, c.time-latest.ensures) at c.in-Err.ensures.err) in
    rw (c.from.ensures, c.lines-n.ensures) stopped
