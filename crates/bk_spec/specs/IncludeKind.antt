-- How an element of XInclude is wrong: XInclude 1.1, sections 3.1 (include) and 3.2 (fallback).
-- Here: `fragid` and `set-xml-id` are wrong, as is an `encoding` other than UTF-8, and the tests come in the order below.
--
--   IncludeKind  which test finds it
--   kind_name    the word for it in a fault's line
use Rattle.std.specs.Prelude.{List, ℕ, codes}

-- another value of `parse` than `xml` and `text`; a `fragid`; a `set-xml-id`; an `href` with a fragment; an `xpointer` beside
-- `parse="text"`; no `href`, or an empty one, and no `xpointer`; beside `parse="text"` an `encoding` other than UTF-8; two
-- children `fallback`; another child in the namespace of XInclude; a `fallback` outside of an include
pub data IncludeKind : Type 0 where
  parse : IncludeKind
  fragid : IncludeKind
  set_xml_id : IncludeKind
  href_fragment : IncludeKind
  text_pointer : IncludeKind
  no_pointer : IncludeKind
  encoding : IncludeKind
  two_fallbacks : IncludeKind
  child_in_namespace : IncludeKind
  stray_fallback : IncludeKind

abbrev pub kind_name : IncludeKind → List ℕ
kind_name parse = codes "Parse"
kind_name fragid = codes "Fragid"
kind_name set_xml_id = codes "SetXmlId"
kind_name href_fragment = codes "HrefFragment"
kind_name text_pointer = codes "TextPointer"
kind_name no_pointer = codes "NoPointer"
kind_name encoding = codes "Encoding"
kind_name two_fallbacks = codes "TwoFallbacks"
kind_name child_in_namespace = codes "ChildInNamespace"
kind_name stray_fallback = codes "StrayFallback"
