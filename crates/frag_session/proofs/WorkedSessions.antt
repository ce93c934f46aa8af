-- The worked sessions, by computing.
use Rattle.std.proofs.Common.{refl}
use Rattle.row_elimination.specs.Room.{has_room, words_for}
use Rattle.frag_model.specs.Verdict.{verdict, missing}
use Rattle.frag_session.specs.Setup.{setup_bits, wrong_coding, too_large, other_descriptor, same_setup, lives}
use Rattle.frag_session.specs.Session.{new_session, renewed, after_setup, excludes, cause_of, drop_cause, news_in, answer_of, followed, after_fragment, shape_of, shown_verdict, shown_file, seen_of, status_by, status_in, status_of}
use Rattle.frag_session.specs.WorkedSessions.{WorkedSetups, WorkedSessions, WorkedFragments, WorkedNews, WorkedStatus}

pub setups : WorkedSetups
unfolding setup_bits wrong_coding too_large other_descriptor has_room words_for
setups = search

pub sessions : WorkedSessions
unfolding setup_bits wrong_coding too_large other_descriptor has_room words_for new_session renewed after_setup same_setup lives
sessions = search

pub fragments : WorkedFragments
unfolding excludes cause_of drop_cause followed after_fragment
fragments = search

pub news : WorkedNews
unfolding news_in answer_of
news = record {
  new = λ s n part mark is. rw is refl;
  old = λ s n part mark is. rw is refl;
  no_session = refl;
  fed = refl;
  fed_old = refl;
  dropped = refl;
}

pub status : WorkedStatus
unfolding excludes shape_of shown_verdict shown_file seen_of status_by status_in status_of verdict missing
status = search
