use Rattle.afdx_command_conform.proofs.joining.make_stream.Goals as goal

pub returns : goal.returns
returns c c' until time given lines l lawful is at port by none kept =
    c.put_stream.ensures c.args.rules.now.tables.now c' until time given lines l lawful is
    (c.new_stream-stream.ensures.stands c' until time c.args.key.port l at port by)
    c.new_stream-stream.ensures.due none kept
