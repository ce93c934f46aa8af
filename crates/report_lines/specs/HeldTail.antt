-- What a report says of a whole file, as a call gets it.
use Rattle.report_lines.specs.declared.sessions.Tail.{Tail}
use Rattle.report_lines.specs.declared.sessions.Tail.TheVariants as tail
use Rattle.report_lines.specs.Sessions.{ToldFile, same, whole}

abbrev pub tail_of : Tail → ToldFile
tail_of (tail.Same image) = same image.now
tail_of tail.File = whole
