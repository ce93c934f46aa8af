use Rattle.frag_session.specs.Session.{view_of}
use Rattle.sample_receiver.proofs.Receivers.{whole_of, none_of}
use Rattle.sample_flash_receiver.proofs.file.Goals as goal

pub returns-in-Complete : goal.returns-in-Complete
returns-in-Complete c = λ s stands.
    whole_of c.in_ok-view.view c.in-Complete.field-0 (view_of s) c.in-Complete.is (c.in_ok-view.ensures.value s stands.stands stands.counted)

pub returns-in_default : goal.returns-in_default
returns-in_default c = λ s stands.
    none_of c.in_ok-view.view (view_of s) c.in_default.not-Complete (c.in_ok-view.ensures.value s stands.stands stands.counted)
