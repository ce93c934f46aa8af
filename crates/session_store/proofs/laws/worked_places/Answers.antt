use Rattle.session_store.proofs.WorkedPlaces.{ranges, rooms}
use Rattle.session_store.proofs.laws.worked_places.Goals as goal

pub returns-clause-ranges : goal.returns-clause-ranges
returns-clause-ranges c = ranges

pub returns-clause-rooms : goal.returns-clause-rooms
returns-clause-rooms c = rooms
