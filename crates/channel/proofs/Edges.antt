-- The worked cases, each as the definition has it: one statement that antt computes.
-- Assumes nothing.
use mathlib.Core.Path.{◌≡◌, refl}
use mathlib.Core.List.{map, ◌++◌}
use Rattle.laws.specs.Clauses as Cl
use Rattle.channel.specs.Wire as W
use Rattle.channel.specs.State as S
use Rattle.channel.specs.Call as C
use Rattle.channel.specs.Read as R
use Rattle.channel.specs.Change as H
use Rattle.channel.specs.Decide as D
use Rattle.channel.specs.Step as T
use Rattle.channel.specs.Raw as Raw
use Rattle.channel.specs.Sound as O
use Rattle.channel.specs.Called as L
use Rattle.channel.specs.Edges.{seen, edges, errors}
use Rattle.channel.specs.Edges as E

-- THE THEOREM
pub each_case : map seen (edges ++ errors) ≡ map (λ c. c.sees) (edges ++ errors)
unfolding
    Cl.every W.uint32 W.read32 W.data_message W.adjust_message W.eof_message W.close_message W.frame W.frames W.pieces W.packets
    S.stored S.kind_of S.look S.is_used S.any_vacant S.any_entry S.replace S.settle_in S.without S.queued S.refit C.is_straight C.direct R.int R.string_ends R.or_else R.read_message
    H.fresh H.confirm H.with_peer_window H.with_window H.with_marks H.with_last H.with_places H.with_entries H.altered H.removed
    D.quiet D.queueing D.staging D.known D.passing D.is_confirmed D.serves D.free_from D.next_number D.remainder D.queues_rest D.send_now D.send_on D.eof_on D.close_on D.charged D.adjust_on
    D.keeping D.sending D.flushed D.any_byte D.flushed_part D.eofs D.closes D.unmarked D.flushed_whole D.flush_on D.taken_in D.taken_read D.window_at D.decide D.load
    T.none_staged T.goes_straight T.to_sent T.to_staged T.needs T.within T.room_for T.carried_out T.with_room T.apply T.step_act T.step_load T.insert T.numbers T.is_refusal T.stop_at T.either T.flush_each T.fitting T.move T.drained T.step
    Raw.places_of Raw.entries_of Raw.messages_of Raw.meaning Raw.zero_record Raw.zero_entry Raw.word_of Raw.records_of Raw.pending_of Raw.written
    O.is_zero O.unused_zero O.is_zero_entry O.entries_zero O.distinct O.found_confirmed O.all_named O.sum_left O.all_marked O.whole_frames O.is_sound L.when_sound L.called
    E.peer_windows E.lengths E.seeing E.seen E.unwritten E.with E.chan E.unconfirmed E.on E.edges E.errors
each_case = refl
