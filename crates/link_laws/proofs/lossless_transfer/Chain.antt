-- A run of the world goes as the two ends of its transfer do.
use Rattle.std.proofs.Common.{◌≡◌, ℕ, zero, suc, ◌+◌, List, [], ◌∷◌, ◌++◌, length, map, true, Option, Some, None, refl, ap, sym, ◌∙◌, subst, arith}
use Rattle.link_script.specs.declared.report.ReportLine.{ReportLine}
use Rattle.link_script.specs.lossy.Link.{Link}
use Rattle.rpc_ids.specs.declared.status.Status.{Status}
use Rattle.rpc_ids.specs.declared.method.Role.TheVariants.{Server, Client}
use Rattle.rpc_packet.specs.declared.owned.Packet.{Packet}
use Rattle.rpc_frames.specs.Written.{IsSendable}
use Rattle.transfer_words.specs.Word.{Word}
use Rattle.transfer_words.specs.Saying.{Stepped}
use Rattle.transfer_resume.specs.declared.stage.Stage.{Stage}
use Rattle.transfer_resume.specs.Hears.{session_hears}
use Rattle.transfer_client.specs.Machine.{Rules}
use Rattle.transfer_laws.specs.pairs.Pair.{EndsSo, LeadsTo, Pair, TakesInSilence, client_said, server_said, turn_by, words_of}
use Rattle.link_laws.specs.world.Lines.{finished, line_telling, transfer_end, transfer_line}
use Rattle.link_laws.specs.world.Sound.{AreSendable, NoFlips}
use Rattle.link_laws.specs.world.Turns.{MakesTurn, Turns, ending, kind_by, next_kind}
use Rattle.link_laws.specs.world.World.{Setup, Tasked, Transfer, World, reads, writes}
use Rattle.link_laws.proofs.one_run.Parts.{GoesOn, flushed_before}
use Rattle.link_laws.proofs.one_run.Ways.{turns_go_on}
use Rattle.link_laws.specs.rounds.Carrying.{carrying}
use Rattle.link_laws.specs.lossless_transfer.Shows.{IsUnderWay, Left, Places, ShowsPair, PairStands, down_packet, moment_at, tasked_with, up_packet}
use Rattle.link_laws.specs.lossless_transfer.Finishes.{IsOver, IsSetFor, Passes, RunsOut}
use Rattle.link_laws.proofs.lossless_transfer.Linking.{finished_idle, finished_on, finished_over}
use Rattle.link_laws.proofs.lossless_transfer.Machines.{IsWrapped, KeepsOn}
use Rattle.link_laws.proofs.lossless_transfer.ServiceWords.{SessionFits}
use Rattle.link_laws.proofs.lossless_transfer.ServerTurns.{ServerTurned, server_turned}
use Rattle.link_laws.proofs.lossless_transfer.ClientTurns.{ClientTurned, client_turned}

module _ (k : Setup) where
  -- the run is at this world
  pub here : (big far : World) (Q : World → Type 0) → RunsOut k big far → Q big → Passes k big far Q
  here big far Q run holds = record { mid = big; many = 0; way = refl; rest = run; holds = holds }

  -- ONE TURN OF THE RUN, and the rest of it
  pub record Begun (big far : World) : Type 0 where
    pub next : World
    pub turn : MakesTurn k big next
    pub run : RunsOut k next far

  pub further : (big far : World) (Q : World → Type 0) (b : Begun big far) → Passes k b.next far Q → Passes k big far Q
  further big far Q b passes = record { mid = passes.mid; many = suc passes.many; way = (b.next, b.turn, passes.way); rest = passes.rest; holds = passes.holds }

  -- it passes through a world, and goes on from there
  pub then_passes : (big far : World) (Q R : World → Type 0) → Passes k big far Q → ((mid : World) → Q mid → RunsOut k mid far → Passes k mid far R) → Passes k big far R
  then_passes big far Q R passes more = by_way passes.many big passes.way
    where
      by_way : (many : ℕ) (w : World) → Turns k many w passes.mid → Passes k w far R
      by_way zero w same = subst (λ z. Passes k z far R) (sym same) (more passes.mid passes.holds passes.rest)
      by_way (suc many) w way =
          let on : Passes k way.0 far R = by_way many way.0 way.2 in
          record { mid = on.mid; many = suc on.many; way = (way.0, way.1, on.way); rest = on.rest; holds = on.holds }

  -- a run that isn't at its end makes a turn
  pub goes_on : (big far : World) → (next_kind big ≡ ending → ⊥) → RunsOut k big far → Begun big far
  goes_on big far more run = at run.total run.turns
    where
      at : (total : ℕ) → Turns k total big far → Begun big far
      at zero same = absurd (more (subst (λ w. next_kind w ≡ ending) (sym same) run.is_last))
      at (suc total) turns = record { next = turns.0; turn = turns.1; run = record { total = total; turns = turns.2; is_last = run.is_last; heard = run.heard } }

  -- a frame that is on its way is delivered first
  pub up_first : (big : World) (p : Packet) (ps : List Packet) → big.to_server ≡ carrying (p ∷ ps) → next_kind big ≡ ending → ⊥
  up_first big p ps on last = absurd cc (subst (λ (l : Link). kind_by l.frames big.to_client.frames big.under big.coming ≡ ending) on last)

  pub down_first : (big : World) (p : Packet) (ps : List Packet) → big.to_server ≡ carrying [] → big.to_client ≡ carrying (p ∷ ps) → next_kind big ≡ ending → ⊥
  down_first big p ps none on last =
      let no_up : kind_by [] big.to_client.frames big.under big.coming ≡ ending = subst (λ (l : Link). kind_by l.frames big.to_client.frames big.under big.coming ≡ ending) none last in
      absurd cc (subst (λ (l : Link). kind_by [] l.frames big.under big.coming ≡ ending) on no_up)

  -- what has gone out on the way is heard, where nothing is damaged
  pub heard_in : (undamaged : NoFlips k.losses) (big far : World) → RunsOut k big far → AreSendable k big
  heard_in undamaged big far run =
      let on : GoesOn big far = turns_go_on k undamaged run.total big far run.turns in
      record {
        server = flushed_before (IsSendable Client) k.server big.server far.server on.server run.heard.server;
        client = flushed_before (IsSendable Server) k.client big.client far.client on.client run.heard.client;
      }

  pub heard_by : (calm : k.losses ≡ []) (big far : World) → RunsOut k big far → AreSendable k big
  heard_by calm big far run = heard_in (subst NoFlips (sym calm) tt) big far run

-- THE TAIL: the line was told, and what is still on its way to the server is taken in silence.
module _ (k : Setup) (x : Places) (set : IsSetFor k x) (lines : List ReportLine) (far : World) where
  abbrev Silent : ℕ → Option Stage → World → Type 0
  Silent n after mid = Left k x lines mid after [] [] n

  one_silent : (big : World) (stage : Option Stage) (c : Word) (rest : List Word) (n : ℕ) (b : Begun k big far) → words_of (session_hears x.service true stage c).sayings ≡ [] → SessionFits stage
      → Left k x lines big stage (c ∷ rest) [] n → Left k x lines b.next (session_hears x.service true stage c).after rest [] n × SessionFits (session_hears x.service true stage c).after
  one_silent big stage c rest n b quiet fits left =
      let t : ServerTurned k x set big b.next stage c rest [] n =
      server_turned k x set big b.next stage c rest [] n left.stands fits b.turn.turn (heard_by k set.lossless.losses b.next far b.run) in
      let after : Option Stage = (session_hears x.service true stage c).after in
      let stands : PairStands k x t.world after rest [] n = by_none (words_of (session_hears x.service true stage c).sayings) quiet t.world t.stands in
      let idle : t.world.under ≡ None = t.under ∙ left.idle in
      let same : b.next ≡ t.world = t.ends ∙ finished_idle k t.world (map (up_packet x) rest) [] stands.to_server stands.to_client idle in
      (subst (λ w. Left k x lines w after rest [] n) (sym same) (record { stands = stands; idle = idle; told = t.lines ∙ left.told }), t.fits)
    where
      by_none : (ws : List Word) → ws ≡ [] → (w : World) → PairStands k x w (session_hears x.service true stage c).after rest ([] ++ ws) (n + length ws)
          → PairStands k x w (session_hears x.service true stage c).after rest [] n
      by_none [] none w stands = subst (λ m. PairStands k x w (session_hears x.service true stage c).after rest [] m) (omega arith) stands
      by_none (w ∷ ws) none _ stands = absurd cc

  pub drains : (ups : List Word) (big : World) (stage after : Option Stage) (n : ℕ) → TakesInSilence x.service stage ups after → SessionFits stage → Left k x lines big stage ups [] n
      → RunsOut k big far → Passes k big far (Silent n after)
  drains [] big stage after n silent fits left run = here k big far (Silent n after) run (subst (λ s. Left k x lines big s [] [] n) silent left)
  drains (c ∷ rest) big stage after n silent fits left run =
      let b : Begun k big far = goes_on k big far (up_first k big (up_packet x c) (map (up_packet x) rest) left.stands.to_server) run in
      let done = one_silent big stage c rest n b silent.0 fits left in
      further k big far (Silent n after) b (drains rest b.next (session_hears x.service true stage c).after after n silent.1 done.1 done.0 b.run)

-- the line of a transfer tells some length
length_told : (k : Setup) (w : World) (task : Tasked) (t : Transfer) (status : Status) → (bytes : ℕ) × (transfer_line k w task t status ≡ line_telling t status bytes)
length_told k w task (reads d) status = (_, refl)
length_told k w task (writes u) status = (_, refl)

-- The transfer under way has ended so: the end of the turn tells its line, and adds nothing else.
module _ (k : Setup) (x : Places) (t : Transfer) (w now : World) (a : Option Stage) (ups downs : List Word) (m : ℕ) (s : Status) where
  line_only : (told : ReportLine) → PairStands k x w a ups downs m → w.lines ≡ x.lines → Left k x (x.lines ++ told ∷ []) (record w { under = None; lines = w.lines ++ told ∷ [] }) a ups downs m
  line_only told st lines = record {
    stands = record {
      server = st.server;
      client = st.client;
      to_server = st.to_server;
      to_client = st.to_client;
      up = st.up;
      down = st.down;
      fed_server = st.fed_server;
      fed_client = st.fed_client;
      said_are = st.said_are;
      kept = record { coming = st.kept.coming; sessions = st.kept.sessions; times = st.kept.times };
    };
    idle = refl;
    told = ap (λ (ls : List ReportLine). ls ++ told ∷ []) lines;
  }

  pub over_so : PairStands k x w a ups downs m → IsUnderWay x t w → now ≡ finished k w → transfer_end t ≡ Some s
      → (bytes : ℕ) × Left k x (x.lines ++ line_telling t s bytes ∷ []) now a ups downs m
  over_so st on ends end =
      let line : ReportLine = transfer_line k w (tasked_with x t) t s in
      let same : now ≡ record w { under = None; lines = w.lines ++ line ∷ [] } =
      ends ∙ finished_over k w (map (up_packet x) ups) (map (down_packet x) downs) st.to_server st.to_client (tasked_with x t) s on.under end in
      let told = length_told k w (tasked_with x t) t s in (
        told.0,
        subst (λ z. Left k x (x.lines ++ line_telling t s told.0 ∷ []) z a ups downs m) (sym same)
            (subst (λ l. Left k x (x.lines ++ l ∷ []) (record w { under = None; lines = w.lines ++ line ∷ [] }) a ups downs m) told.1 (line_only line st on.lines)),
      )

-- THE WAY TO THE END
module _ {A : Type 0} (rules : Rules A) (wrap : A → Transfer) (P : A → Type 0) (k : Setup) (x : Places) (set : IsSetFor k x) (wrapped : IsWrapped rules wrap) (keeps : KeepsOn rules (moment_at x) P)
    (far : World) (last : Pair A) (status : Status) (over : rules.end_of last.client ≡ Some status) where
  -- the world shows the pair, whose words fit
  pub record Going (big : World) (w : Pair A) : Type 0 where
    pub shows : ShowsPair wrap k x big w
    pub fits : SessionFits w.server
    pub holds : P w.client

  -- the line of the transfer was told
  pub record Arrived (mid : World) : Type 0 where
    pub bytes : ℕ
    pub left : Left k x (x.lines ++ line_telling (wrap last.client) status bytes ∷ []) mid last.server last.to_server last.to_client last.said
    pub fits : SessionFits last.server

  abbrev Leads : ℕ → Pair A → Type 0
  Leads n w = LeadsTo x.service rules (moment_at x) n w last

  abbrev pub From : ℕ → Type 0
  From n = (big : World) (w : Pair A) → rules.end_of w.client ≡ None → Leads n w → Going big w → RunsOut k big far → Passes k big far Arrived

  abbrev pair : Option Stage → A → List Word → List Word → ℕ → Pair A
  pair a b ups downs m = record { server = a; client = b; to_server = ups; to_client = downs; said = m }

  server_step : (n : ℕ) → From n → (big : World) (a : Option Stage) (b : A) (c : Word) (rest downs : List Word) (m : ℕ) → rules.end_of b ≡ None
      → Leads n (server_said (pair a b (c ∷ rest) downs m) rest (session_hears x.service true a c)) → Going big (pair a b (c ∷ rest) downs m) → RunsOut k big far → Passes k big far Arrived
  server_step n more big a b c rest downs m going leads g run =
      let st = g.shows.stands in
      let f : Begun k big far = goes_on k big far (up_first k big (up_packet x c) (map (up_packet x) rest) st.to_server) run in
      let t : ServerTurned k x set big f.next a c rest downs m = server_turned k x set big f.next a c rest downs m st g.fits f.turn.turn (heard_by k set.lossless.losses f.next far f.run) in
      let task : IsUnderWay x (wrap b) t.world = record { under = t.under ∙ g.shows.task.under; lines = t.lines ∙ g.shows.task.lines } in
      let same : f.next ≡ t.world =
      t.ends ∙ finished_on k t.world (map (up_packet x) rest) (map (down_packet x) (downs ++ words_of (session_hears x.service true a c).sayings)) t.stands.to_server t.stands.to_client
      (tasked_with x (wrap b)) task.under (wrapped.ends b ∙ going) in
      let next : Pair A = server_said (pair a b (c ∷ rest) downs m) rest (session_hears x.service true a c) in
      further k big far Arrived f
      (more f.next next going leads (subst (λ w. Going w next) (sym same) (record { shows = record { stands = t.stands; task = task }; fits = t.fits; holds = g.holds })) f.run)

  -- the client has ended: no turn of the pair comes behind that
  ended_here : (n : ℕ) (w : Pair A) (s : Status) → rules.end_of w.client ≡ Some s → Leads n w → w ≡ last
  ended_here zero w s end leads = leads
  ended_here (suc n) w s end leads = absurd (none_some (rules.end_of w.client) leads.1.0 end)
    where
      none_some : (o : Option Status) → o ≡ None → o ≡ Some s → ⊥
      none_some None none some = cc
      none_some (Some r) none some = cc

  client_step : (n : ℕ) → From n → (big : World) (a : Option Stage) (b : A) (c : Word) (rest : List Word) (m : ℕ) → rules.end_of b ≡ None
      → Leads n (client_said (pair a b [] (c ∷ rest) m) rest (rules.hears b c (moment_at x))) → Going big (pair a b [] (c ∷ rest) m) → RunsOut k big far → Passes k big far Arrived
  client_step n more big a b c rest m going leads g run = by_end (rules.end_of step.after) refl
    where
      step : Stepped A
      step = rules.hears b c (moment_at x)

      next : Pair A
      next = client_said (pair a b [] (c ∷ rest) m) rest step

      f : Begun k big far
      f = goes_on k big far (down_first k big (down_packet x c) (map (down_packet x) rest) g.shows.stands.to_server g.shows.stands.to_client) run

      t : ClientTurned rules wrap P k x set wrapped keeps big f.next a b c rest m
      t = client_turned rules wrap P k x set wrapped keeps big f.next a b c rest m g.shows.stands g.shows.task g.holds going f.turn.turn (heard_by k set.lossless.losses f.next far f.run)

      by_end : (o : Option Status) → rules.end_of step.after ≡ o → Passes k big far Arrived
      by_end None end =
          let same : f.next ≡ t.world =
          t.ends ∙ finished_on k t.world (map (up_packet x) (words_of step.sayings)) (map (down_packet x) rest) t.stands.to_server t.stands.to_client (tasked_with x (wrap step.after)) t.task.under
          (wrapped.ends step.after ∙ end) in
          further k big far Arrived f
          (more f.next next end leads (subst (λ w. Going w next) (sym same) (record { shows = record { stands = t.stands; task = t.task }; fits = g.fits; holds = t.holds })) f.run)
      by_end (Some s) end =
          let told = over_so k x (wrap step.after) t.world f.next a (words_of step.sayings) rest (m + length (words_of step.sayings)) s t.stands t.task t.ends (wrapped.ends step.after ∙ end) in
          further k big far Arrived f (here k f.next far Arrived f.run (as_last (ended_here n next s end leads) s end told.0 told.1))
        where
          as_last : next ≡ last → (s : Status) → rules.end_of next.client ≡ Some s → (bytes : ℕ)
              → Left k x (x.lines ++ line_telling (wrap next.client) s bytes ∷ []) f.next next.server next.to_server next.to_client next.said → Arrived f.next
          as_last is s end bytes left =
              let same : s ≡ status = same_status s (sym end ∙ (ap (λ (v : Pair A). rules.end_of v.client) is ∙ over)) in
              record {
                bytes = bytes;
                left = subst (λ v. Left k x (x.lines ++ line_telling (wrap v.client) status bytes ∷ []) f.next v.server v.to_server v.to_client v.said) is
                    (subst (λ r. Left k x (x.lines ++ line_telling (wrap next.client) r bytes ∷ []) f.next next.server next.to_server next.to_client next.said) same left);
                fits = subst (λ v. SessionFits v.server) is g.fits;
              }
            where
              same_status : (s : Status) → ◌≡◌ {A = Option Status} (Some s) (Some status) → s ≡ status
              same_status s e = cc

  pair_step : (n : ℕ) → From n → (big : World) (a : Option Stage) (b : A) (ups downs : List Word) (m : ℕ) (next : Pair A) → rules.end_of b ≡ None
      → turn_by x.service rules (moment_at x) (pair a b ups downs m) ups downs ≡ Some next → Leads n next → Going big (pair a b ups downs m) → RunsOut k big far → Passes k big far Arrived
  pair_step n more big a b (c ∷ rest) downs m next going is leads g run =
      server_step n more big a b c rest downs m going (subst (Leads n) (some_same _ next is) leads) g run
    where
      some_same : (v w : Pair A) → ◌≡◌ {A = Option (Pair A)} (Some v) (Some w) → w ≡ v
      some_same v w e = cc
  pair_step n more big a b [] (c ∷ rest) m next going is leads g run =
      client_step n more big a b c rest m going (subst (Leads n) (some_same _ next is) leads) g run
    where
      some_same : (v w : Pair A) → ◌≡◌ {A = Option (Pair A)} (Some v) (Some w) → w ≡ v
      some_same v w e = cc
  pair_step n more big a b [] [] m next going is leads g run = absurd cc

  pub arrives : (n : ℕ) → From n
  arrives zero = λ big w going leads g run. absurd (none_some (rules.end_of w.client) going (ap (λ (v : Pair A). rules.end_of v.client) leads ∙ over))
    where
      none_some : (o : Option Status) → o ≡ None → o ≡ Some status → ⊥
      none_some None none some = cc
      none_some (Some r) none some = cc
  arrives (suc n) = λ big w going leads g run.
      pair_step n (arrives n) big w.server w.client w.to_server w.to_client w.said leads.0 going leads.1.1.0 leads.1.1.1 g run

-- turns behind turns
pub turns_join : (k : Setup) (n : ℕ) (a b c : World) (m : ℕ) → Turns k n a b → Turns k m b c → (count : ℕ) × Turns k count a c
turns_join k zero a b c m first second = (m, subst (λ w. Turns k m w c) (sym first) second)
turns_join k (suc n) a b c m first second = (let rest = turns_join k n first.0 b c m first.2 second in (suc rest.0, (first.0, first.1, rest.1)))

-- BOTH TOGETHER: the world comes to the end that the two ends come to by themselves.
module _ {A : Type 0} (rules : Rules A) (wrap : A → Transfer) (P : A → Type 0) (k : Setup) (x : Places) (set : IsSetFor k x) (wrapped : IsWrapped rules wrap) (keeps : KeepsOn rules (moment_at x) P) where
  pub comes_over : (big far : World) (w : Pair A) (end : A) (status : Status) (session : Option Stage) (most : ℕ) → EndsSo x.service rules (moment_at x) w end session most
      → rules.end_of end ≡ Some status → rules.end_of w.client ≡ None → ShowsPair wrap k x big w → SessionFits w.server → P w.client → RunsOut k big far
      → Passes k big far (IsOver k x (wrap end) status session most)
  comes_over big far w end status session most e over going shows fits holds run =
      let first = arrives rules wrap P k x set wrapped keeps far e.last status (ap rules.end_of e.client ∙ over) e.turns big w going e.way (record { shows = shows; fits = fits; holds = holds }) run in
      passed first.mid first.many first.way first.holds first.rest
    where
      passed : (mid : World) (many : ℕ) → Turns k many big mid → Arrived rules wrap P k x set wrapped keeps far e.last status (ap rules.end_of e.client ∙ over) mid → RunsOut k mid far
          → Passes k big far (IsOver k x (wrap end) status session most)
      passed mid many way there run =
          let lines : List ReportLine = x.lines ++ line_telling (wrap e.last.client) status there.bytes ∷ [] in
          let tail = drains k x set lines far e.last.to_server mid e.last.server session e.last.said e.server there.fits
          (subst (λ downs. Left k x lines mid e.last.server e.last.to_server downs e.last.said) e.to_client there.left) run in
          let way = turns_join k many big mid tail.mid tail.many way tail.way in
          record {
            mid = tail.mid;
            many = way.0;
            way = way.1;
            rest = tail.rest;
            holds = record {
              bytes = there.bytes;
              said = e.last.said;
              few = e.few;
              left = subst (λ t. Left k x (x.lines ++ line_telling (wrap t) status there.bytes ∷ []) tail.mid session [] [] e.last.said) e.client tail.holds;
            };
          }
