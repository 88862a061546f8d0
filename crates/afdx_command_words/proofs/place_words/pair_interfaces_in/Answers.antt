use Rattle.std.proofs.Common.{refl}
use Rattle.afdx_frame.specs.declared.link.Side.TheVariants.{A, B}
use Rattle.afdx_input_sources.specs.Places.{names_of, place_of}
use Rattle.afdx_command_words.specs.PlaceSaid.{spot_of}
use Rattle.afdx_command_words.specs.Placed.{Came, OfSide}
use Rattle.afdx_command_words.proofs.PuttingLemmas.{empty-put, nowhere, side-next, words-put}
use Rattle.afdx_command_words.proofs.place_words.pair_interfaces_in.Goals as goal

pub loop-word-init : goal.loop-word-init
loop-word-init c = (
  empty-put (OfSide A) (Came (names_of c.in_ok-a.a)) (place_of c.in_ok-a.a) c.in_ok-a.ensures,
  empty-put (OfSide B) (Came (names_of c.in_ok-b.b)) (place_of c.in_ok-b.b) c.in_ok-b.ensures,
)

pub loop-word-preserved : goal.loop-word-preserved
loop-word-preserved c =
    let words = c.args.words.now in
    let i = c.loop-word.word-index in
    let spot = spot_of c.in-Some.said in
    let is = c.in-Some.ensures.read.given (c.in-Some.interface, spot_of c.in-Some.said) refl in
    let old = c.loop-word.pair in
    let new = c.put_in_pair.new.pair in (
      side-next A words i _ nowhere old.a new.a c.in-Some.interface spot c.loop-word-test.true
          c.loop-word.invariant.0 is c.in_ok-put_in_pair.ensures.a,
      side-next B words i _ nowhere old.b new.b c.in-Some.interface spot c.loop-word-test.true
          c.loop-word.invariant.1 is c.in_ok-put_in_pair.ensures.b,
    )

pub returns-clause-a : goal.returns-clause-a
returns-clause-a c =
    words-put (OfSide A) (Came (names_of c.loop-word.pair.a)) c.args.words.now c.loop-word.word-index nowhere
    (place_of c.loop-word.pair.a) c.loop-word-test.false c.loop-word.invariant.0 (λ k. refl)

pub returns-clause-b : goal.returns-clause-b
returns-clause-b c =
    words-put (OfSide B) (Came (names_of c.loop-word.pair.b)) c.args.words.now c.loop-word.word-index nowhere
    (place_of c.loop-word.pair.b) c.loop-word-test.false c.loop-word.invariant.1 (λ k. refl)
