-- The words of what is said, and the packets that say them.
use Rattle.std.proofs.Common.{◌≡◌, ℕ, ◌+◌, List, [], ◌∷◌, ◌++◌, length, map, refl, ap, sym, ◌∙◌, append_assoc, length-append}
use Rattle.std.proofs.lemmas.List.{append-nil, length-map}
use Rattle.std.specs.List.{AllByRecursion}
use Rattle.rpc_ids.specs.declared.method.Role.TheVariants.{Server, Client}
use Rattle.rpc_packet.specs.declared.owned.Packet.{Packet}
use Rattle.rpc_packet.specs.declared.packet_type.PacketType.{PacketType}
use Rattle.rpc_packet.specs.declared.call_name.CallName.{CallName}
use Rattle.rpc_frames.specs.Written.{IsSendable}
use Rattle.transfer_words.specs.Word.{Word}
use Rattle.transfer_words.specs.Saying.{Saying, says, begins, appends, commits, leaves}
use Rattle.transfer_laws.specs.pairs.Pair.{words_of}
use Rattle.transfer_laws.proofs.words.Receivers.{AllFit}
use Rattle.history_laws.proofs.messages.Members.{all_join}
use Rattle.link_laws.specs.lossless_transfer.Shows.{GoesDown, GoesUp, HasSaid, IsSaid, Places, down_packet, packet_saying, up_packet}
use Rattle.link_laws.proofs.lossless_transfer.ServiceWords.{NoStarts}

module _ (x : Places) where
  pub words_up : (ss : List Saying) → AllFit ss → AllByRecursion (IsSendable Server) (map (up_packet x) (words_of ss)) → AllByRecursion (GoesUp x) (words_of ss)
  words_up [] fits heard = tt
  words_up (says w ∷ ss) fits heard = (record { fits = fits.0; heard = heard.0 }, words_up ss fits.1 heard.1)
  words_up (begins r o ∷ ss) fits heard = words_up ss fits.1 heard
  words_up (appends bytes ∷ ss) fits heard = words_up ss fits.1 heard
  words_up (commits ∷ ss) fits heard = words_up ss fits.1 heard
  words_up (leaves ∷ ss) fits heard = words_up ss fits.1 heard

  pub words_down : (ss : List Saying) → AllFit ss → NoStarts ss → AllByRecursion (IsSendable Client) (map (down_packet x) (words_of ss)) → AllByRecursion (GoesDown x) (words_of ss)
  words_down [] fits starts heard = tt
  words_down (says w ∷ ss) fits starts heard = (record { fits = fits.0; of_session = starts.0; heard = heard.0 }, words_down ss fits.1 starts.1 heard.1)
  words_down (begins r o ∷ ss) fits starts heard = words_down ss fits.1 starts.1 heard
  words_down (appends bytes ∷ ss) fits starts heard = words_down ss fits.1 starts.1 heard
  words_down (commits ∷ ss) fits starts heard = words_down ss fits.1 starts.1 heard
  words_down (leaves ∷ ss) fits starts heard = words_down ss fits.1 starts.1 heard

  all_said : (type : PacketType) (name : CallName) (ss : List Saying) → x.client_opening.name ≡ name → AllFit ss
      → AllByRecursion (IsSaid x) (map (packet_saying type name x.session) (words_of ss))
  all_said type name [] named fits = tt
  all_said type name (says w ∷ ss) named fits =
      (record { type = type; word = w; is = ap (λ (n : CallName). packet_saying type n x.session w) (sym named); fits = fits.0 }, all_said type name ss named fits.1)
  all_said type name (begins r o ∷ ss) named fits = all_said type name ss named fits.1
  all_said type name (appends bytes ∷ ss) named fits = all_said type name ss named fits.1
  all_said type name (commits ∷ ss) named fits = all_said type name ss named fits.1
  all_said type name (leaves ∷ ss) named fits = all_said type name ss named fits.1

  -- nothing was said yet
  pub said_none : HasSaid x x.numbered 0
  said_none = record { more = []; numbered_are = sym (append-nil x.numbered); many = refl; words = tt }

  -- the packets of what was said were numbered behind those before
  pub said_more : (type : PacketType) (name : CallName) (ss : List Saying) (before after : List Packet) (n : ℕ) → x.client_opening.name ≡ name → AllFit ss → HasSaid x before n
      → after ≡ before ++ map (packet_saying type name x.session) (words_of ss) → HasSaid x after (n + length (words_of ss))
  said_more type name ss before after n named fits old is =
      let ws : List Word = words_of ss in
      let new : List Packet = map (packet_saying type name x.session) ws in
      record {
        more = old.more ++ new;
        numbered_are = is ∙ (ap (λ (ps : List Packet). ps ++ new) old.numbered_are ∙ append_assoc x.numbered old.more new);
        many =
            length-append old.more new
            ∙ (ap (λ m. m + length new) old.many ∙ ap (λ m. n + m) (length-map ws (packet_saying type name x.session)));
        words = all_join (IsSaid x) old.more new old.words (all_said type name ss named fits);
      }
