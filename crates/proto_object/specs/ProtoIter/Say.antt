-- What the rows of iterations say.
use Rattle.proto_object.specs.Below.{PlainWorld, ProtocolJob, DoGetIter, DoNext, DoCollect, DoContains, DoCount, DoFind, Row, end, elsewhere}
use Rattle.proto_object.specs.ProtoIter.Iteration.{get_iter_say, next_say, collect_say, contains_say, count_say, find_say}

unfoldable pub iter_job_say : PlainWorld → ProtocolJob → Row
iter_job_say w (DoGetIter o) told = get_iter_say w o told
iter_job_say w (DoNext o) told = next_say w o told
iter_job_say w (DoCollect o) told = collect_say w o told
iter_job_say w (DoContains o x) told = contains_say w o x told
iter_job_say w (DoCount o x) told = count_say w o x told
iter_job_say w (DoFind o x) told = find_say w o x told
iter_job_say w _ told = end w elsewhere told
