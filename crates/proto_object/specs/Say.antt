-- What the rows of what all objects can do say.
use Rattle.proto_object.specs.Below.{PlainWorld, ObjectJob, DoHash, DoRepr, DoStr, DoFormat, DoDir, DoIsInstance, DoInst, DoIsSubclass, DoSub, DoAbsSub, Row}
use Rattle.proto_object.specs.Texts.{hash_say, repr_say, str_say, format_say, dir_say}
use Rattle.proto_object.specs.Classes.{is_instance_say, inst_say, is_subclass_say, sub_say, abs_sub_say}

unfoldable pub object_job_say : PlainWorld → ObjectJob → Row
object_job_say w (DoHash o) told = hash_say w o told
object_job_say w (DoRepr o) told = repr_say w o told
object_job_say w (DoStr o) told = str_say w o told
object_job_say w (DoFormat o s) told = format_say w o s told
object_job_say w (DoDir o) told = dir_say w o told
object_job_say w (DoIsInstance o c) told = is_instance_say w o c told
object_job_say w (DoInst o c) told = inst_say w o c told
object_job_say w (DoIsSubclass d c) told = is_subclass_say w d c told
object_job_say w (DoSub d c) told = sub_say w d c told
object_job_say w (DoAbsSub d c) told = abs_sub_say w d c told
