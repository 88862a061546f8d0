-- How a list of several switches is read: the switches that its lines name, and what is told of it.
use Rattle.std.proofs.Common.{◌≡◌, ℕ, ◌≤◌, ◌<◌, List, [], ◌∷◌, length, map, refl, ◌∙◌, ap, ap₂, sym, subst, arith}
use Rattle.std.proofs.Common.{◌⊎◌, Bool, true, false, true≢false, inl, inr, Vec, Global, Option, Some, None}
use Rattle.std.proofs.Common.{Result, Ok, Err, IfOk, IfSome, is_some}
use Rattle.std.proofs.KnownBytes.{Appends-nil}
use Rattle.afdx_config.proofs.AmongOthersLemmas.{among_others}
use Rattle.afdx_config.specs.Files.{IsLawfulFile}
use Rattle.afdx_config.specs.Switches.{NamedRows, far_end}
use Rattle.afdx_config.specs.declared.describing.Described.{Described}
use Rattle.afdx_config.specs.declared.describing.Described.TheVariants.{One, Several}
use Rattle.afdx_config.specs.declared.switches.FarEnd.{FarEnd}
use Rattle.afdx_cascade.specs.Cascade as cascade
use Rattle.afdx_cascade.specs.Turning.{end_of}
use Rattle.afdx_cascade.proofs.WaitLemmas.{nothing-brought}
use Rattle.afdx_cascade.specs.declared.cascade.Cascade.{Cascade}
use Rattle.afdx_command_tables.specs.Checking.{IsAdmittedFile}
use Rattle.afdx_command_tables.specs.Counts.{with_lines}
use Rattle.afdx_command_tables.specs.declared.summary.Summary.{Summary}
use Rattle.afdx_end_systems.specs.declared.systems.Systems.{Systems}
use Rattle.afdx_frame.specs.Seals.{IsSealedAs}
use Rattle.afdx_frame.specs.Times.{latest_listed}
use Rattle.afdx_input_sources.specs.Engine.{CanTell, Item, item_of}
use Rattle.afdx_input_sources.specs.Items.{CanFollow, thing_of}
use Rattle.afdx_input_sources.specs.ListRun.{IsDone, ListAnswers}
use Rattle.afdx_input_sources.specs.Listed.{frames}
use Rattle.afdx_input_sources.specs.Lists.{latest_in}
use Rattle.afdx_input_sources.specs.Placing.{IsAtOpenPort}
use Rattle.afdx_input_sources.proofs.ListRunLemmas.{answers-err, answers-ok}
use Rattle.afdx_input_sources.proofs.RunLemmas.{stops-at-start}
use Rattle.afdx_input_runs.specs.declared.input_run.InputCount.{InputCount}
use Rattle.afdx_input_lines.specs.FrameLines.{listed_frame}
use Rattle.afdx_input_lines.specs.Lines.{lines_of, most_lines}
use Rattle.afdx_input_lines.specs.SitedLines.{NamedCables, sited_frame}
use Rattle.afdx_input_lines.specs.declared.fault.RunFault.{RunFault}
use Rattle.afdx_input_lines.specs.declared.fault.RunFault.TheVariants as run
use Rattle.afdx_input_lines.specs.declared.frame_line.Heading.{Heading}
use Rattle.afdx_input_lines.specs.declared.watched.Watched.{Watched}
use Rattle.afdx_text.proofs.OutputLemmas.{whole_front}
use Rattle.afdx_input_runs.specs.Arrivals.{TookAndTold}
use Rattle.afdx_input_runs.proofs.ArrivalsLemmas.{by-more, if-known as where-known}
use Rattle.afdx_replay.specs.Inputs.{Taking, answer_of}
use Rattle.afdx_replay.specs.cascading.Early.{AreEarlyLines, HearsEarly}
use Rattle.afdx_replay.proofs.EarlyLemmas.{hears-start}
use Rattle.afdx_replay.specs.cascading.Input.{Replays, TellsTaken}
use Rattle.afdx_replay.specs.cascading.Items.{BeginsItems, TellsAll, TellsItems}
use Rattle.afdx_replay.specs.cascading.Ran.{AllIsTold, AllSoFarIsTold, Answers, HearsSoFar, SomeIsTold}
use Rattle.afdx_replay.specs.cascading.Ran.{WritesAll, WritesList, WritesSoFar, WritesSome, lists}
use Rattle.afdx_replay.specs.cascading.Sited.{IsAtPlace, IsAtSite, cables_of, lines_in, site_of, sited_frames}
use Rattle.afdx_replay.specs.cascading.Sited.{sites_of}
use Rattle.afdx_replay.specs.cascading.Text.{cascade_text}
use Rattle.afdx_input_runs.specs.ListText.{switch_name}
use Rattle.afdx_replay.specs.cascading.Told.{AreSteady, HasTold, SystemsAre, latest_line}
use Rattle.afdx_replay.specs.declared.cascading.run.Cascading.{Cascading}
use Rattle.afdx_replay.specs.declared.cascading.teller.Teller.{Teller}
use Rattle.afdx_replay.specs.replaying.Replayed.{Known}
use Rattle.afdx_replay.specs.replaying.Command.{FileAnswers, FilePromises}
use Rattle.afdx_replay.proofs.AdmittedRunLemmas.{if-known}
use Rattle.afdx_replay.proofs.CascadePartLemmas.{no-parts}
use Rattle.afdx_replay.proofs.SiteLemmas.{cable-is, sites-count}
use Rattle.afdx_replay.proofs.CascadeRunLemmas.{told-some, told-so-far}

-- ---- the lines of a list

pub same-site : (site : NamedCables) (ss : List NamedRows) (k : ℕ) → site.name ≡ switch_name ss k
    → site.cables ≡ cables_of ss k → site ≡ site_of ss k
same-site site ss k name cables =
    let named : List ℕ → List Bool → NamedCables = λ n c. record { name = n; cables = c } in
    ap₂ named name cables

module _ (sites : List NamedCables) where
  same-latest : (past : List (Item Heading)) → latest_in frames (map (thing_of frames listed_frame) past)
      ≡ latest_in (sited_frames sites) (map (thing_of (sited_frames sites) sited_frame) past)
  same-latest [] = refl
  same-latest (x ∷ past) = refl

  -- a frame that a line says may come after others
  abbrev MayFollow : ℕ → List ℕ → Heading → Type 0
  MayFollow latest bytes h = (past : List (Item Heading)) (n : ℕ) →
      latest_in (sited_frames sites) (map (thing_of (sited_frames sites) sited_frame) past) ≡ latest →
      length past < most_lines → CanFollow past (item_of n h bytes)

  pub may-follow : {E : Type 0} (r : Result (Option Heading) E) (latest : ℕ) (bytes : List ℕ)
      → IfOk r (λ head. IfSome head (λ h. h.time ≤ latest_listed))
      → IfOk r (λ head. IfSome head (λ h. latest ≤ h.time))
      → IfOk r (λ head. IfSome head (λ h. IsSealedAs h.seal bytes))
      → IfOk r (λ head. IfSome head (MayFollow latest bytes))
  may-follow (Ok (Some h)) latest bytes early order sealed = λ past n is few. record {
    in_order = record {
      order = subst (λ t. t ≤ h.time) (sym (same-latest past ∙ is)) order;
      early = early;
      few = omega (arith, few);
    };
    sealed = sealed;
  }
  may-follow (Ok None) latest bytes early order sealed = tt
  may-follow (Err e) latest bytes early order sealed = tt

-- ---- the switches that it names

no-end : (o : Option FarEnd) → is_some o ≡ false → end_of o ≡ None
no-end None e = refl
no-end (Some f) e = absurd (true≢false e)

module _ (ss : List NamedRows) where
  pub at-place : (x : Item Heading) → IsAtSite (sites_of ss) x → IsAtPlace ss x
  at-place x is =
      let count = sites-count ss in
      let within : x.head.switch < length ss = omega (arith, is.within, count) in
      record {
        within = within;
        free = no-end (far_end ss x.head.switch x.head.port)
            (sym (cable-is ss x.head.switch x.head.port within is.port) ∙ is.free);
      }

  -- so is what came in at an open port, or what such a list says
  pub come-there : (enters : Item Heading → Type 0) → CanTell enters (IsAtOpenPort ss) → (x : Item Heading)
      → IsAtSite (sites_of ss) x ⊎ enters x → IsAtPlace ss x
  come-there enters there x come = elim come [
    | inl is ↦ at-place x is
    | inr entered ↦ (let at = there x entered in record { within = at.within; free = ap end_of at.free })
  ]

  -- each frame that the lines of a list say can be told
  pub can-tell : (sites : List NamedCables) → sites ≡ sites_of ss → CanTell (IsAtSite sites) (IsAtPlace ss)
  can-tell sites are x is = at-place x (subst (λ named. IsAtSite named x) are is)

-- ---- what is told of its items

module _ {D : Type 0} (contents : D → Option (List ℕ)) (ss : List NamedRows) (start : Option (Watched D))
    (m : Cascading D) (old new : Known) where
  pub told-so-far-of : (items : List (Item Heading)) → TellsItems contents (ss, start) m old new items
      → WritesSoFar ss (lines_in items) old new × HearsSoFar contents ss (lines_in items) start m.teller.early
  told-so-far-of items h = told-so-far contents ss (lines_in items) start old new m.cascade m.teller h.told

  pub told-some-of : (items : List (Item Heading)) → TellsItems contents (ss, start) m old new items
      → BeginsItems contents (ss, start) m old new items
  told-some-of items h =
      told-some contents ss (lines_in items) start old new m.cascade m.teller (latest_line (lines_in items))
      h.told.events h.told.told h.told.first

-- nothing is told yet
pub none-told : {D : Type 0} (contents : D → Option (List ℕ)) (ss : List NamedRows) (start : Option (Watched D))
    (m : Cascading D) (output : Known) → HasTold contents ss m.cascade m.teller start output output []
    → cascade.IsUntil m.cascade 0 → AreSteady m.teller.counts
    → TellsItems contents (ss, start) m output output []
none-told contents ss start m output has until steady = record {
  told = record {
    events = [];
    first = λ later from. refl;
    at_line = refl;
    brought = λ k port side other joined. nothing-brought side k port other;
    told = has;
  };
  early = omega arith;
  in_time = tt;
  clock = until;
  few = omega arith;
  steady = steady;
}

-- ---- what is answered for a list

start-some : (ss : List NamedRows) (output : Known) → WritesSome ss [] output output
unfolding cascade_text
start-some ss output = record {
  events = [];
  first = refl;
  parts = no-parts ss;
  written = whole_front output output [] (Appends-nil output);
}

-- memory ran out before anything was read
pub stops-start : (ss : List NamedRows) (input output : Known)
    → IfSome input (λ bytes. Answers ss bytes input output output (Err run.Memory))
stops-start ss input output =
    stops-at-start (lists ss) (λ past. WritesSoFar ss past output output) (λ past. WritesSome ss past output output)
    input (start-some ss output)

done-list : (ss : List NamedRows) (counts : Summary) (n : ℕ) (lines : List (List ℕ)) (old new : Known)
    → IsDone (lists ss) (λ past. WritesAll ss past old new counts) n lines
    → WritesList ss lines old new (with_lines counts n)
done-list ss counts n lines old new h =
    record { sound = h.sound; counts = counts; told = h.are_told; counted = ap (with_lines counts) h.all }

done-known : (ss : List NamedRows) (counts : Summary) (n : ℕ) (input old new : Known)
    → IfSome input (λ bytes. IsDone (lists ss) (λ past. WritesAll ss past old new counts) n (lines_of bytes))
    → IfSome input (λ bytes. WritesList ss (lines_of bytes) old new (with_lines counts n))
done-known ss counts n None old new h = tt
done-known ss counts n (Some bytes) old new h = done-list ss counts n (lines_of bytes) old new h

module _ {D : Type 0} (contents : D → Option (List ℕ)) (ss : List NamedRows) (start : Option (Watched D))
    (m : Cascading D) (old new input rest : Known) where
  -- what a run over its lines answers, which names these switches
  abbrev pub ListSays : List NamedCables → Result ℕ RunFault → Type 0
  ListSays sites answer = IfSome input (λ bytes. ListAnswers (sited_frames sites)
      (thing_of (sited_frames sites) sited_frame) (TellsAll contents (ss, start) m old new)
      (TellsItems contents (ss, start) m old new) (BeginsItems contents (ss, start) m old new) bytes rest answer)

  pub answered-ok : (sites : List NamedCables) (n : ℕ) → sites ≡ sites_of ss → ListSays sites (Ok n)
      → IfSome input (λ bytes. Answers ss bytes rest old new (Ok (with_lines m.teller.counts n)))
  answered-ok sites n are h =
      done-known ss m.teller.counts n input old new
      (answers-ok (lists ss) (thing_of (lists ss) sited_frame) (TellsAll contents (ss, start) m old new)
      (TellsItems contents (ss, start) m old new) (BeginsItems contents (ss, start) m old new)
      (λ past. WritesAll ss past old new m.teller.counts) input rest n (λ items d. d.0)
      (subst (λ named. ListSays named (Ok n)) are h))

  pub answered-err : (sites : List NamedCables) (fault : RunFault) → sites ≡ sites_of ss
      → ListSays sites (Err fault)
      → IfSome input (λ bytes. Answers ss bytes rest old new (Err fault))
  answered-err sites fault are h =
      answers-err (lists ss) (thing_of (lists ss) sited_frame) (TellsAll contents (ss, start) m old new)
      (TellsItems contents (ss, start) m old new) (BeginsItems contents (ss, start) m old new)
      (λ past. WritesSoFar ss past old new) (λ past. WritesSome ss past old new) input rest fault
      (λ items t. (
        (told-so-far-of contents ss start m old new items t).0,
        (told-some-of contents ss start m old new items t).0,
      ))
      (λ items b. b.0) (subst (λ named. ListSays named (Err fault)) are h)

-- ---- what a file describes

-- what is answered for it is as promised, where it is admitted
pub file-promised : (d : Described) (list rest old new : Known) (answer : Result Summary RunFault)
    → IsLawfulFile d → IsAdmittedFile d → IfSome list (λ bytes. FileAnswers d bytes rest old new answer)
    → IfSome list (λ bytes. FilePromises d bytes rest old new answer)
file-promised (One t) list rest old new answer lawful admitted h =
    if-known t list rest old new answer (among_others t lawful) admitted h
file-promised (Several ss) None rest old new answer lawful admitted h = tt
file-promised (Several ss) (Some bytes) rest old new answer lawful admitted h = tt

-- ---- a replay that is handed nothing

module _ {D : Type 0} (contents : D → Option (List ℕ)) (ss : List NamedRows) where
  none-some : (early : Option (Watched D)) (output : Known) → SomeIsTold contents ss [] early early output output
  none-some early output = (
    start-some ss output,
    record {
      events = [];
      left = [];
      few = omega arith;
      first = refl;
      heard = hears-start contents (AreEarlyLines ss []) early refl;
    },
  )

  pub replays-none : {B : Type 0} (known : Option B) (takes : B → Taking) (early : Option (Watched D))
      (output : Known) (counts : Summary)
      → ((bytes : B) → known ≡ Some bytes → takes bytes [] (Err run.Memory))
      → Replays contents ss early early output output known takes (Err run.Memory)
  replays-none known takes early output counts taken = record {
    counts = counts;
    count = Err run.Memory;
    answered = refl;
    told = where-known known
        (λ bytes. TellsTaken contents ss early early output output (takes bytes) counts (Err run.Memory))
        (λ bytes is. record { items = []; taken = taken bytes is; told = none-some early output });
  }

  -- a new replay tells this device
  pub told-anew : (w : Cascade) (t u : Teller D) (early : Option (Watched D)) (output : Known)
      → HasTold contents ss w t None output output [] → u.switches.now ≡ t.switches.now → u.systems ≡ t.systems
      → u.counts ≡ t.counts → u.early ≡ early
      → HasTold contents ss w u early output output []
  told-anew w t u early output has switches systems counts is = record {
    fits = record {
      switches_are = switches ∙ has.fits.switches_are;
      systems_are = ap (λ (v : Vec Systems Global). length v.items) systems ∙ has.fits.systems_are;
      few = has.fits.few;
    };
    switches_are = has.switches_are;
    systems_are = subst (λ (v : Vec Systems Global). SystemsAre ss v.items []) (sym systems) has.systems_are;
    counted = counts ∙ has.counted;
    written = has.written;
    heard = subst (λ e. HearsEarly contents ss early e []) (sym is)
        (hears-start contents (AreEarlyLines ss []) early refl);
  }

  -- so far it has told nothing
  pub first-told : (w : Cascade) (t u : Teller D) (early : Option (Watched D)) (output : Known)
      → HasTold contents ss w t None output output [] → cascade.IsUntil w 0 → AreSteady t.counts
      → u.switches.now ≡ t.switches.now → u.systems ≡ t.systems → u.counts ≡ t.counts → u.early ≡ early
      → TellsItems contents (ss, early) (record { cascade = w; teller = u }) output output []
  first-told w t u early output has until steady switches systems counts is =
      none-told contents ss early (record { cascade = w; teller = u }) output
      (told-anew w t u early output has switches systems counts is) until
      (subst (λ (c : Summary). AreSteady c) (sym counts) steady)

-- ---- of the items that a run took

module _ {D : Type 0} (contents : D → Option (List ℕ)) (ss : List NamedRows) (early : Option (Watched D))
    (m : Cascading D) (old new : Known) where
  begun : (items : List (Item Heading))
      → TellsItems contents (ss, early) m old new items ⊎ BeginsItems contents (ss, early) m old new items
      → BeginsItems contents (ss, early) m old new items
  begun items (inl a) = told-some-of contents ss early m old new items a
  begun items (inr b) = b

  -- the machine told them
  abbrev pub ToldOf : Taking → Result InputCount RunFault → Type 0
  ToldOf takes r =
      TookAndTold takes r (TellsAll contents (ss, early) m old new) (TellsItems contents (ss, early) m old new)
      (BeginsItems contents (ss, early) m old new)

  -- so a replay did that has its counts and its device
  abbrev pub ReplayedOf : Taking → Result InputCount RunFault → Type 0
  ReplayedOf takes r = TellsTaken contents ss early m.teller.early old new takes m.teller.counts r

  tells-taken : (takes : Taking) (r : Result InputCount RunFault) → ToldOf takes r → ReplayedOf takes r
  tells-taken takes r (items, taken, told) = record {
    items = items;
    taken = taken;
    told = by-more r (TellsAll contents (ss, early) m old new items) (TellsItems contents (ss, early) m old new items)
        (TellsItems contents (ss, early) m old new items ⊎ BeginsItems contents (ss, early) m old new items)
        (AllIsTold contents ss (lines_in items) early m.teller.early old new m.teller.counts)
        (AllSoFarIsTold contents ss (lines_in items) early m.teller.early old new)
        (SomeIsTold contents ss (lines_in items) early m.teller.early old new) (λ a. a)
        (λ a. told-so-far-of contents ss early m old new items a) (λ a. begun items a) told;
  }

  if-told : {B : Type 0} (known : Option B) (takes : B → Taking) (r : Result InputCount RunFault)
      → IfSome known (λ bytes. ToldOf (takes bytes) r) → IfSome known (λ bytes. ReplayedOf (takes bytes) r)
  if-told None takes r h = tt
  if-told (Some bytes) takes r h = tells-taken (takes bytes) r h

  pub replays-told : {B : Type 0} (known : Option B) (takes : B → Taking) (r : Result InputCount RunFault)
      → IfSome known (λ bytes. ToldOf (takes bytes) r)
      → Replays contents ss early m.teller.early old new known takes (answer_of m.teller.counts r)
  replays-told known takes r h =
      record { counts = m.teller.counts; count = r; answered = refl; told = if-told known takes r h }
