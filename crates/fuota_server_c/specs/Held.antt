-- The type of what a handle holds.
use Rattle.fuota_server_c.specs.contracts.campaign.Campaign.{the_row}
use denote.RattleType.{RattleType}

abbrev pub server_row : RattleType
server_row = the_row
